-- Where a line lies.
use Rattle.std.proofs.Common.{◌≡◌, ◌≤◌, ◌<◌, ◌+◌, ◌^◌, ◌++◌, ◌∷◌, [], List, ℕ, ℤ, pos, negsuc, length, refl, sym, ap, ◌∙◌, subst, Bool, true, false, Option}
use Rattle.std.proofs.Common.{None, Some}
use Rattle.std.proofs.Common.{append_assoc, arith}
use Rattle.std.proofs.lemmas.Int.{ints}
use Rattle.std.proofs.lemmas.Fmt.{length_signed_le}
use Rattle.std.proofs.lemmas.Option.{same_Some}
use lib.Signed.{mag}
use Rattle.std.specs.Prelude.{◌↔◌, FitsSigned, IsTrue}
use Rattle.std.specs.Int.{w64}
use Rattle.std.specs.declared.cmp.Ordering.{Ordering}
use Rattle.std.specs.declared.cmp.Ordering.TheVariants.{Greater}
use Rattle.osm_model.specs.Change.{ChangeValue}
use Rattle.osm_model.specs.declared.kind.Key.{Key}
use Rattle.osm_model.specs.declared.kind.Kind.{Kind}
use Rattle.osm_model.specs.declared.kind.Kind.TheVariants.{Node, Relation, Way}
use Rattle.osm_mirror.specs.Mirror.{IsObject}
use Rattle.osm_opl.specs.Lists.{letter_of}
use Rattle.osm_opl.specs.Written.{key_text, line_text}
use Rattle.osm_model.specs.Limits.{IsId}
use Rattle.osm_reading.specs.Pieces.{Lacks, cut_at}
use Rattle.osm_reading.proofs.PieceLemmas.{cut_again, cut_lacks, cut_takes, uncut_lacks}
use Rattle.osm_asking.specs.Fingerprint.{before_cut, first_word}
use Rattle.osm_asking.specs.Finding.{side_at}
use Rattle.osm_asking.specs.Steps.Passing.{IsOther, IsSide, IsStarted}
use Rattle.osm_asking.specs.Steps.Sides.{side_in}
use Rattle.osm_asking.specs.declared.side.Wanted.{Wanted}
use Rattle.osm_asking.specs.declared.side.Wanted.TheVariants.{Counts, Object}
use Rattle.osm_asking.proofs.KeyLemmas.{key_cut}

some_letter : (kind : Kind) → (letter_of kind ≡ 110 → ⊥) → (letter_of kind ≡ 119 → ⊥) → (letter_of kind ≡ 114 → ⊥) → ⊥
some_letter Node n w r = n refl
some_letter Way n w r = w refl
some_letter Relation n w r = r refl

own_letter : (c : ChangeValue) → IsOther (line_text c) → ⊥
unfolding line_text
own_letter c other = some_letter c.key.kind other.0 other.1 other.2

pub not_begun : (wanted : Wanted) (line : List ℕ) (b : Bool) → (IsTrue b ↔ (IsOther line → ⊥)) → b ≡ false → IsSide wanted line (Some Greater)
not_begun wanted line b begins isnt = record {
  own = λ c is e. absurd (let held : b ≡ true = begins.1 (λ other. own_letter c (subst IsOther e other)) in let bad : true ≡ false = sym held ∙ isnt in cc);
  other = λ o. refl;
}

side_is : (wanted : Wanted) (key : Key) → side_in wanted (Some key) ≡ Some (side_at wanted key)
side_is Counts key = refl
side_is (Object k) key = refl

pub begun : (wanted : Wanted) (line : List ℕ) (b : Bool) (key : Option Key) (side : Option Ordering) → (IsTrue b ↔ (IsOther line → ⊥)) → b ≡ true
    → ((c : ChangeValue) → IsObject c → line ≡ line_text c → key ≡ Some c.key) → side ≡ side_in wanted key → IsSide wanted line side
begun wanted line b key side begins held own is = record {
  own = λ c object e. is ∙ (ap (side_in wanted) (own c object e) ∙ side_is wanted c.key);
  other = λ o. absurd (begins.0 held o);
}

-- ---- a line of which only the first bytes are known

front_other : (start more : List ℕ) → 32 ≤ length start → IsOther start → IsOther (start ++ more)
front_other [] more some o = absurd (omega (arith, some))
front_other (b ∷ bs) more some o = o

other_front : (start more : List ℕ) → IsOther (start ++ more) → 32 ≤ length start → IsOther start
other_front [] more o some = tt
other_front (b ∷ bs) more o some = o

pub unstarted : (wanted : Wanted) (start : List ℕ) (b : Bool) → 32 ≤ length start → (IsTrue b ↔ (IsOther start → ⊥)) → b ≡ false
    → IsStarted wanted start (Some Greater)
unstarted wanted start b some begins isnt = λ more. record {
  own = λ c is e. absurd
      (let held : b ≡ true = begins.1 (λ other. own_letter c (subst IsOther e (front_other start more some other))) in
      let bad : true ≡ false = sym held ∙ isnt in cc);
  other = λ o. refl;
}

pub started : (wanted : Wanted) (start : List ℕ) (b : Bool) (key : Option Key) (side : Option Ordering) → 32 ≤ length start
    → (IsTrue b ↔ (IsOther start → ⊥)) → b ≡ true
    → ((c : ChangeValue) (more : List ℕ) → IsObject c → start ++ more ≡ line_text c → key ≡ Some c.key) → side ≡ side_in wanted key
    → IsStarted wanted start side
started wanted start b key side some begins held own is = λ more. record {
  own = λ c object e. is ∙ (ap (side_in wanted) (own c more object e) ∙ side_is wanted c.key);
  other = λ o. absurd (begins.0 held (other_front start more o some));
}

-- bytes that are longer than a word before a separator have the separator
in_front : (s : ℕ) (start more word rest : List ℕ) → start ++ more ≡ word ++ s ∷ rest → length word < length start → Lacks s start → ⊥
in_front s [] more word rest e less lacks = omega (arith, less)
in_front s (x ∷ xs) more [] rest e less lacks = lacks.0 (first_same e)
  where
    first_same : x ∷ (xs ++ more) ≡ s ∷ rest → x ≡ s
    first_same same = cc
in_front s (x ∷ xs) more (w ∷ ws) rest e less lacks = in_front s xs more ws rest (tail_same e) (omega (arith, less)) lacks.1
  where
    tail_same : x ∷ (xs ++ more) ≡ w ∷ (ws ++ s ∷ rest) → xs ++ more ≡ ws ++ s ∷ rest
    tail_same same = cc

mag_small : (z : ℤ) → IsId z → mag z + 1 < 10 ^ 19
mag_small (pos n) is = (let high = is.high in omega (arith, ints, high))
mag_small (negsuc n) is = (let low = is.low in omega (arith, ints, low))

mag_fits : (z : ℤ) → IsId z → mag z < 2 ^ 63
mag_fits (pos n) is = (let high = is.high in omega (arith, ints, high))
mag_fits (negsuc n) is = (let low = is.low in omega (arith, ints, low))

key_short : (k : Key) → IsId k.id → length (key_text k) < 32
key_short k is =
    let size = length_signed_le 19 k.id (mag_small k.id is) (mag_fits k.id is) in
    omega (arith, size)

-- they have the key of an object whose line begins so
start_word : (c : ChangeValue) (start more : List ℕ) → IsId c.key.id → start ++ more ≡ line_text c → 32 ≤ length start → first_word start ≡ key_text c.key
start_word c start more is e some = by_cut (cut_at 32 start) refl (key_cut c is)
  where
    by_cut : (o : Option (List ℕ × List ℕ)) → cut_at 32 start ≡ o → (rest : List ℕ) × (cut_at 32 (line_text c) ≡ Some (key_text c.key, rest))
        → first_word start ≡ key_text c.key
    by_cut None none (rest, cut) =
        let less = key_short c.key is in
        absurd (in_front 32 start more (key_text c.key) rest (e ∙ cut_takes 32 (line_text c) (key_text c.key) rest cut) (omega (arith, less, some))
        (uncut_lacks 32 start none))
    by_cut (Some (word, after)) found (rest, cut) =
        let text : start ++ more ≡ word ++ 32 ∷ (after ++ more) =
        ap (λ (l : List ℕ). l ++ more) (cut_takes 32 start word after found) ∙ append_assoc word (32 ∷ after) more in
        let whole : cut_at 32 (line_text c) ≡ Some (word, after ++ more) =
        ap (cut_at 32) (sym e ∙ text) ∙ cut_again 32 word (after ++ more) (cut_lacks 32 start word after found) in
        let same : (word, after ++ more) ≡ (key_text c.key, rest) =
        same_Some {A = List ℕ × List ℕ} (word, after ++ more) (key_text c.key, rest) (sym whole ∙ cut) in
        ap (before_cut start) found ∙ ap (λ (p : List ℕ × List ℕ). p.0) same

pub start_key : (c : ChangeValue) (start more word : List ℕ) → IsObject c → start ++ more ≡ line_text c → 32 ≤ length start → word ≡ first_word start
    → word ≡ key_text c.key
start_key c start more word object e some is = is ∙ start_word c start more object.limits.id e some

pub id_fits : (c : ChangeValue) → IsObject c → FitsSigned w64 c.key.id
id_fits c object = (let low = object.limits.id.low in let high = object.limits.id.high in omega (arith, ints, low, high))
