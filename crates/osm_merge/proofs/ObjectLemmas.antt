-- Objects with net changes laid over them.
use Rattle.std.proofs.Common.{◌≡◌, ℕ, ◌≤◌, List, [], ◌∷◌, ◌++◌, length, refl, sym, ap, ◌∙◌, Some, None, Option, arith}
use Rattle.std.specs.declared.cmp.Ordering.TheVariants.{Less, Equal, Greater}
use Rattle.std.proofs.lemmas.Option.{same_Some}
use Rattle.osm_blocks.specs.Places.{IsLong}
use Rattle.osm_model.specs.Change.{ChangeValue}
use Rattle.osm_model.specs.Filter.{FilterValue}
use Rattle.osm_model.specs.KeyOrder.{key_cmp}
use Rattle.osm_model.specs.declared.kind.Key.{Key}
use Rattle.osm_net.specs.Laid.{laid_over, put_before}
use Rattle.osm_net.specs.Net.{NetEntry}
use Rattle.osm_net.proofs.LaidLemmas.{laid_over-above, laid_over-at, laid_over-below, laid_over-no_entry, laid_over-no_object}
use Rattle.osm_reading.specs.Pieces.{cut_at}
use Rattle.osm_reading.specs.Answers.{and_then}
use Rattle.osm_reading.proofs.PieceLemmas.{cut_takes}
use Rattle.osm_save.specs.Reading.{IsKeyOf, object_at, object_of}
use Rattle.osm_save.proofs.ObjectLemmas.{TakesObject, object_takes}
use Rattle.osm_opl.specs.Written.{line_text}
use Rattle.osm_merge.specs.Faults.{IsBadLine}
use Rattle.osm_merge.specs.Laying.{IsSpelled, Lays, next_at}
use Rattle.osm_merge.specs.Reading.{LineStops}
use Rattle.osm_merge.specs.declared.fault.MergeFault.{MergeFault}
use Rattle.osm_merge.specs.declared.fault.MergeFault.TheVariants.{BadSave, Changed, LongLine, NoSave, ReadFault, TooLarge, WantOfMemory, WriteFault}
use Rattle.osm_merge.proofs.LineLengthLemmas.{lines_are_short}
use Rattle.osm_merge.proofs.LineLemmas.{none_by, not_long}

pub put_before-append : (z : Option ChangeValue) (cs : List ChangeValue) → put_before z cs ≡ put_before z [] ++ cs
put_before-append None cs = refl
put_before-append (Some c) cs = refl

pub put_before-few : (z : Option ChangeValue) → length (put_before z []) ≤ 1
put_before-few None = omega arith
put_before-few (Some c) = omega arith

pub over_below : (e : NetEntry) (es : List NetEntry) (c : ChangeValue) → key_cmp e.0 c.key ≡ Less
    → (cs : List ChangeValue) → laid_over (e ∷ es) (c ∷ cs) ≡ put_before e.1 [] ++ laid_over es (c ∷ cs)
over_below e es c less cs = laid_over-below e es c cs less ∙ put_before-append e.1 (laid_over es (c ∷ cs))

pub over_at : (e : NetEntry) (es : List NetEntry) (c : ChangeValue) → key_cmp e.0 c.key ≡ Equal
    → (cs : List ChangeValue) → laid_over (e ∷ es) (c ∷ cs) ≡ put_before e.1 [] ++ laid_over es cs
over_at e es c equal cs = laid_over-at e es c cs equal ∙ put_before-append e.1 (laid_over es cs)

pub over_above : (e : NetEntry) (es : List NetEntry) (c : ChangeValue) → key_cmp e.0 c.key ≡ Greater
    → (cs : List ChangeValue) → laid_over (e ∷ es) (c ∷ cs) ≡ (c ∷ []) ++ laid_over (e ∷ es) cs
over_above e es c greater cs = laid_over-above e es c cs greater

pub over_none : (c : ChangeValue) (cs : List ChangeValue) → laid_over [] (c ∷ cs) ≡ (c ∷ []) ++ laid_over [] cs
over_none c cs = laid_over-no_entry (c ∷ cs) ∙ ap (λ (l : List ChangeValue). c ∷ l) (sym (laid_over-no_entry cs))

pub over_nothing : (e : NetEntry) (es : List NetEntry) → laid_over (e ∷ es) [] ≡ put_before e.1 [] ++ laid_over es []
over_nothing e es = laid_over-no_object e es ∙ put_before-append e.1 (laid_over es [])

-- an object before all entries stays as it is
pub lays_alone : (es : List NetEntry) (c : ChangeValue) (Out : List ℕ → Type 0)
    → ((cs : List ChangeValue) → laid_over es (c ∷ cs) ≡ c ∷ laid_over es cs) → Out (line_text c ++ 10 ∷ [])
    → Lays laid_over line_text es c es 1 Out
lays_alone es c Out stays out = record {
  put = c ∷ [];
  laid = stays;
  out = out;
  many_are = refl;
  few = omega arith;
}

-- ---- the next line

pub next_is : {X K : Type 0} (item : Option K → List ℕ → Option X) (last : Option K) (bytes line after : List ℕ) (o : Option X)
    → cut_at 10 bytes ≡ Some (line, after) → o ≡ item last line → next_at item last bytes ≡ and_then {A = X} {B = X × List ℕ} o (λ x. Some (x, after))
unfolding next_at
next_is item last bytes line after o cut is = rw (cut, is) refl

pub next_none : {X K : Type 0} (item : Option K → List ℕ → Option X) (last : Option K) (bytes : List ℕ) → cut_at 10 bytes ≡ None
    → next_at item last bytes ≡ None
unfolding next_at
next_none item last bytes cut = rw cut refl

pub next_long : {X K : Type 0} (item : Option K → List ℕ → Option X) (last : Option K) (bytes : List ℕ)
    → ((line after : List ℕ) → cut_at 10 bytes ≡ Some (line, after) → item last line ≡ None) → next_at item last bytes ≡ None
unfolding next_at
next_long {X} {K} item last bytes none = by_cut (cut_at 10 bytes) refl
  where
    by_cut : (o : Option (List ℕ × List ℕ)) → cut_at 10 bytes ≡ o
        → and_then {A = List ℕ × List ℕ} {B = X × List ℕ} o (λ l. and_then {A = X} {B = X × List ℕ} (item last l.0) (λ y. Some (y, l.1))) ≡ None
    by_cut None cut = refl
    by_cut (Some l) cut = let nothing = none l.0 l.1 cut in rw nothing refl

pub object_long : (f : FilterValue) (last : Option Key) (bytes : List ℕ) → IsLong bytes → next_at (object_at f) last bytes ≡ None
object_long f last bytes long = next_long (object_at f) last bytes (λ line after cut. none_by (object_at f last line) (λ c e.
    let t : TakesObject f last line c = object_takes f last line c e in
    not_long bytes (line_text c) after long (cut_takes 10 bytes line after cut ∙ ap (λ (l : List ℕ). l ++ 10 ∷ after) t.text)
    (lines_are_short c t.good.object)))

pub bad_refuses : {A : Type 0} (file : List ℕ) (fault : MergeFault) (r : Option A) → IsBadLine fault → r ≡ None → LineStops file fault r
bad_refuses file (BadSave line) r bad none = none
bad_refuses file LongLine r bad none = absurd bad
bad_refuses file TooLarge r bad none = absurd bad
bad_refuses file NoSave r bad none = absurd bad
bad_refuses file Changed r bad none = absurd bad
bad_refuses file ReadFault r bad none = absurd bad
bad_refuses file WriteFault r bad none = absurd bad
bad_refuses file WantOfMemory r bad none = absurd bad

-- ---- keys

pub key_spelled : (f : FilterValue) (last : Option Key) (line : List ℕ) (key : Key) → IsKeyOf f last line (Some key) → IsSpelled key line
key_spelled f last line key h = record {
  text = (object_takes f last line (object_of line) h.read).text;
  named = same_Some key (object_of line).key h.named;
}
