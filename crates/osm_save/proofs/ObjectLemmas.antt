-- The line of an object.
use Rattle.std.proofs.Common.{◌≡◌, ℕ, List, [], length, refl, sym, ap, ◌∙◌, arith, Bool, true, false, ◌&&◌, Option, Some, None, subst}
use Rattle.std.specs.Prelude.{◌==◌, if◌then◌else◌}
use Rattle.std.specs.Str.{bytes_eq}
use Rattle.std.proofs.lemmas.Bool.Decides.{nat_tests}
use Rattle.std.proofs.lemmas.Option.{same_Some}
use Rattle.std.proofs.lemmas.Slice.Eq.{bytes_eq-Decides}
use Rattle.osm_model.specs.Change.{ChangeValue, IsChange}
use Rattle.osm_model.specs.Content.{object_after}
use Rattle.osm_model.specs.Filter.{FilterValue, chooses, keeps}
use Rattle.osm_model.specs.KeyOrder.{key_cmp}
use Rattle.osm_model.specs.declared.kind.Key.{Key}
use Rattle.osm_model.proofs.FilterLemmas.{object_after-kept}
use Rattle.osm_mirror.specs.Mirror.{IsObject}
use Rattle.osm_opl.specs.Line.{SpellsLine}
use Rattle.osm_opl.specs.Object.{IsObjectLine}
use Rattle.osm_opl.specs.Reading.{line_at}
use Rattle.osm_opl.specs.Written.{line_text}
use Rattle.osm_opl.proofs.LineLaws.{line_again, line_takes}
use Rattle.osm_opl.proofs.RoundTrip.{line_spells}
use Rattle.osm_reading.proofs.StepLemmas.{both_held, guard_some, some_then}
use Rattle.osm_save.specs.Reading.{IsKeyOf, IsWritten, is_above, object_at, object_of}

-- a line that spells no change is read as none
pub no_change : (line : List ℕ) → ((c : ChangeValue) → SpellsLine line c → ⊥) → None ≡ line_at line
no_change line none = by_reading (line_at line) refl
  where
    by_reading : (o : Option ChangeValue) → line_at line ≡ o → None ≡ line_at line
    by_reading None e = sym e
    by_reading (Some c) e = absurd (none c (line_takes line c e))

-- no object is read from such a line, nor from one that isn't what is written of its change
pub none_spelled : (line : List ℕ) → None ≡ line_at line → IsWritten line [] None
unfolding object_at
none_spelled line e f last = let none : line_at line ≡ None = sym e in rw none refl

pub none_written : (line : List ℕ) (c : ChangeValue) → line_at line ≡ Some c → bytes_eq (line_text c) line ≡ false → IsWritten line [] None
unfolding object_at
none_written line c read other f last = rw (read, other) refl

abbrev is_read : FilterValue → Option Key → List ℕ → ChangeValue → Bool
is_read f last line c = bytes_eq (line_text c) line && keeps f c && is_above key_cmp last c.key

-- an object that the filter keeps
pub record IsKept (f : FilterValue) (c : ChangeValue) : Type 0 where
  pub object : IsObject c
  pub kept : keeps f c ≡ true

-- what is read from a line
pub record TakesObject (f : FilterValue) (last : Option Key) (line : List ℕ) (c : ChangeValue) : Type 0 where
  pub text : line ≡ line_text c
  pub good : IsKept f c
  pub above : is_above key_cmp last c.key ≡ true

pub object_takes : (f : FilterValue) (last : Option Key) (line : List ℕ) (c : ChangeValue) → object_at f last line ≡ Some c
    → TakesObject f last line c
unfolding object_at
object_takes f last line c e =
    let r = some_then (line_at line) (λ (d : ChangeValue). if is_read f last line d then Some d else None) c e in
    let g = guard_some (is_read f last line r.0) (Some r.0) c r.2 in
    let p = both_held (bytes_eq (line_text r.0) line && keeps f r.0) (is_above key_cmp last r.0.key) g.0 in
    let q = both_held (bytes_eq (line_text r.0) line) (keeps f r.0) p.0 in
    subst (λ (d : ChangeValue). TakesObject f last line d) (same_Some r.0 c g.1) (record {
      text = sym ((bytes_eq-Decides (line_text r.0) line).0 q.0);
      good = record {
        object = record { limits = (line_takes line r.0 r.1).limits; is_left = object_after-kept f r.0 q.1 };
        kept = q.1;
      };
      above = p.1;
    })

-- what is written is read
pub object_again : (f : FilterValue) (last : Option Key) (c : ChangeValue) → IsKept f c → is_above key_cmp last c.key ≡ true
    → object_at f last (line_text c) ≡ Some c
unfolding object_at
object_again f last c is above =
    let line : line_at (line_text c) ≡ Some c = line_again (line_text c) c (line_spells c is.object.limits) in
    let same : bytes_eq (line_text c) (line_text c) ≡ true = (bytes_eq-Decides (line_text c) (line_text c)).1 refl in
    rw (line, same, is.kept, above) refl

-- what is written of an object within the limits is read as it, if it is chosen
pub written_again : (f : FilterValue) (last : Option Key) (line : List ℕ) (c : ChangeValue) → IsChange c → line ≡ line_text c
    → object_at f last line ≡ (if keeps f c && is_above key_cmp last c.key then Some c else None)
unfolding object_at
written_again f last line c is e =
    let read : line_at (line_text c) ≡ Some c = line_again (line_text c) c (line_spells c is) in
    let same : bytes_eq (line_text c) (line_text c) ≡ true = (bytes_eq-Decides (line_text c) (line_text c)).1 refl in
    rw (e, read, same) refl

pub chosen_again : (f : FilterValue) (last : Option Key) (line : List ℕ) (c : ChangeValue) → IsChange c → line ≡ line_text c
    → (keeps f c && is_above key_cmp last c.key) ≡ true → Some c ≡ object_at f last line
chosen_again f last line c is e test = sym (written_again f last line c is e ∙ rw test refl)

pub none_again : (f : FilterValue) (last : Option Key) (line : List ℕ) (c : ChangeValue) → IsChange c → line ≡ line_text c
    → (keeps f c && is_above key_cmp last c.key) ≡ false → None ≡ object_at f last line
none_again f last line c is e test = sym (written_again f last line c is e ∙ rw test refl)

-- ---- keys

object_is : (f : FilterValue) (last : Option Key) (line : List ℕ) (c : ChangeValue) → object_at f last line ≡ Some c → object_of line ≡ c
unfolding object_at
object_is f last line c e =
    let r = some_then (line_at line) (λ (d : ChangeValue). if is_read f last line d then Some d else None) c e in
    let g = guard_some (is_read f last line r.0) (Some r.0) c r.2 in
    rw r.1 (same_Some r.0 c g.1)

pub no_key : (f : FilterValue) (last : Option Key) (line : List ℕ) → None ≡ object_at f last line → IsKeyOf f last line None
no_key f last line e = record { read = sym e; named = refl }

pub key_is : (f : FilterValue) (last : Option Key) (line : List ℕ) (c : ChangeValue) (key : Key) → Some c ≡ object_at f last line
    → key ≡ c.key → IsKeyOf f last line (Some key)
key_is f last line c key e named =
    let same : object_of line ≡ c = object_is f last line c (sym e) in
    record {
      read = sym e ∙ ap (λ (d : ChangeValue). Some d) (sym same);
      named = ap (λ (k : Key). Some k) (named ∙ ap (λ (d : ChangeValue). d.key) (sym same));
    }

-- an object is kept for its kind if the filter has no keys
kept_kind : (f : FilterValue) (c : ChangeValue) → length f.keys ≡ 0 → object_after c ≡ Some c → chooses f c.key.kind ≡ true → keeps f c ≡ true
unfolding keeps
kept_kind f c none left chosen =
    let test : (length f.keys == 0) ≡ true = grind (arith, nat_tests) in
    rw (left, chosen, test) refl

-- the key of a line that is recognised as it stands
pub key_again : (f : FilterValue) (last : Option Key) (line : List ℕ) (key : Key) → length f.keys ≡ 0 → IsObjectLine line key
    → chooses f key.kind ≡ true → is_above key_cmp last key ≡ true → IsKeyOf f last line (Some key)
key_again f last line key none is chosen above =
    let kind : chooses f is.object.key.kind ≡ true = rw is.named chosen in
    let next : is_above key_cmp last is.object.key ≡ true = rw is.named above in
    let kept : keeps f is.object ≡ true = kept_kind f is.object none is.left kind in
    let read : object_at f last (line_text is.object) ≡ Some is.object =
    object_again f last is.object (record { object = record { limits = is.limits; is_left = is.left }; kept = kept }) next in
    key_is f last line is.object key (sym (ap (object_at f last) is.text ∙ read)) (sym is.named)
