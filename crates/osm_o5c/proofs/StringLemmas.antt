-- A string that is read is spelled, and what is spelled is read.
use Rattle.std.proofs.Common.{◌≡◌, ℕ, zero, suc, ◌+◌, ◌*◌, ◌%◌, ◌<◌, ◌≤◌, Bool, true, false, not, eqb, leb, ◌&&◌, ◌||◌}
use Rattle.std.proofs.Common.{List, [], ◌∷◌, ◌++◌, length, Option, Some, None, refl, sym, ap, subst, ◌∙◌, append_assoc}
use Rattle.std.proofs.Common.{arith, inl, inr}
use Rattle.std.specs.Prelude.{Contains, ◌≢◌}
use Rattle.std.specs.Str.{is_utf8}
use Rattle.std.proofs.lemmas.Bool.{cases_eq}
use Rattle.std.proofs.lemmas.Bool.Decides.{nat_tests}
use Rattle.std.proofs.lemmas.Option.{same_Some}
use Rattle.std.proofs.lemmas.Str.{IsUtf8-from_is_utf8, is_utf8-from_IsUtf8}
use Rattle.osm_model.specs.Text.{IsText}
use Rattle.osm_o5c.specs.Number.{SpellsNumber}
use Rattle.osm_o5c.specs.Entries.{SpellsPair, in_line, reference, SpellsSingle, in_line_single, reference_single, entries_of, named}
use Rattle.osm_o5c.specs.NumberReading.{unsigned_at}
use Rattle.osm_o5c.specs.StringReading.{until_nul_at, latest, entered, pair_of, single_of, pair_at, single_at, has_nul, is_text, text_of}
use Rattle.osm_reading.specs.Pieces.{cut_at, with_before}
use Rattle.osm_reading.specs.Answers.{and_then}
use Rattle.osm_o5c.specs.declared.strings.Entry.{Entry}
use Rattle.osm_o5c.specs.declared.strings.Entry.TheVariants.{Pair, Single}
use Rattle.osm_reading.proofs.StepLemmas.{some_then, some_when, chosen, both_held}
use Rattle.osm_o5c.proofs.TakenLemmas.{TakenTo}
use Rattle.osm_o5c.proofs.NumberLemmas.{unsigned_takes, unsigned_again, number_some}
use Rattle.osm_o5c.proofs.TableLemmas.{table_of, entered_is, latest_is}

-- ---- up to the first 00

pub record Before (s bytes rest : List ℕ) : Type 0 where
  pub parts : bytes ≡ s ++ 0 ∷ rest
  pub no_nul : ¬ Contains s 0

pub none_before : (b : ℕ) (s : List ℕ) → b ≢ 0 → ¬ Contains s 0 → ¬ Contains (b ∷ s) 0
none_before b s first more (zero, lt, is) = first is
none_before b s first more (suc k, lt, is) = more (k, omega arith, is)

pub until_takes : (bytes : List ℕ) (x : List ℕ × List ℕ) → until_nul_at bytes ≡ Some x → Before x.0 bytes x.1
unfolding until_nul_at
until_takes [] x e = absurd cc
until_takes (b ∷ bs) x e =
    chosen (eqb b 0) (Some ([], bs)) _ (Some x) e (Before x.0 (b ∷ bs) x.1)
    (λ nul is.
    let z : b ≡ 0 = grind (arith, nat_tests) in
    subst (λ (p : List ℕ × List ℕ). Before p.0 (b ∷ bs) p.1) (same_Some ([], bs) x is)
    (record { parts = rw z refl; no_nul = λ c. omega (arith, c.1) }))
    (λ other is.
    let y = some_then (until_nul_at bs) (λ t. Some (b ∷ t.0, t.1)) x is in
    let t : Before y.0.0 bs y.0.1 = until_takes bs y.0 y.1 in
    let n : b ≢ 0 = grind (arith, nat_tests) in
    subst (λ (p : List ℕ × List ℕ). Before p.0 (b ∷ bs) p.1) (same_Some (b ∷ y.0.0, y.0.1) x y.2)
    (record { parts = ap (λ (l : List ℕ). b ∷ l) t.parts; no_nul = none_before b y.0.0 n t.no_nul }))

pub until_again : (s rest : List ℕ) → ¬ Contains s 0 → until_nul_at (s ++ 0 ∷ rest) ≡ Some (s, rest)
unfolding until_nul_at
until_again [] rest none = refl
until_again (b ∷ bs) rest none =
    let n : b ≢ 0 = λ z. none (0, omega arith, z) in
    let other : eqb b 0 ≡ false = grind (arith, nat_tests) in
    let inner : until_nul_at (bs ++ 0 ∷ rest) ≡ Some (bs, rest) = until_again bs rest (λ c. none (suc c.0, omega (arith, c.1), c.2)) in
    rw (other, inner) refl

with_before_is : (b : ℕ) (r : Option (List ℕ × List ℕ)) → and_then r (λ t. Some (b ∷ t.0, t.1)) ≡ with_before b r
with_before_is b None = refl
with_before_is b (Some x) = refl

-- it is a cut at the first 00
pub until_nul_is : (bytes : List ℕ) → until_nul_at bytes ≡ cut_at 0 bytes
unfolding until_nul_at cut_at
until_nul_is [] = refl
until_nul_is (b ∷ bs) = rw (until_nul_is bs, with_before_is b (cut_at 0 bs)) refl

-- ---- references

-- a spelling of a number that names an entry doesn't begin with 00
named_none : (es : List Entry) (s : Entry) → named es 0 ≡ Some s → ⊥
named_none es s e = absurd cc

reference_starts : (b : ℕ) (bs : List ℕ) (k : ℕ) (es : List Entry) (s : Entry) → SpellsNumber (b ∷ bs) k → named es k ≡ Some s → eqb b 0 ≡ false
reference_starts b [] k es s spells is =
    elim (cases_eq b 0) [
      | inl z ↦ let v : k ≡ b % 128 + 128 * 0 = spells.value in let n : k ≡ 0 = omega arith in
          absurd (named_none es s (subst (λ (i : ℕ). named es i ≡ Some s) n is))
      | inr o ↦ grind (arith, nat_tests)
    ]
reference_starts b (c ∷ cs) k es s spells is = let big : 128 ≤ b = spells.varint.0 in grind (arith, nat_tests)

pair_of_is : (o : Option Entry) (x : List ℕ × List ℕ) → pair_of o ≡ Some x → o ≡ Some (Pair x.0 x.1)
pair_of_is (Some (Pair first second)) x e = ap (λ (p : List ℕ × List ℕ). Some (Pair p.0 p.1)) (same_Some (first, second) x e)
pair_of_is (Some (Single text)) x e = absurd cc
pair_of_is None x e = absurd cc

single_of_is : (o : Option Entry) (x : List ℕ) → single_of o ≡ Some x → o ≡ Some (Single x)
single_of_is (Some (Single text)) x e = ap (λ (t : List ℕ). Some (Single t)) (same_Some text x e)
single_of_is (Some (Pair first second)) x e = absurd cc
single_of_is None x e = absurd cc

-- ---- pairs

pair_parts : (bs f s more rest : List ℕ) → bs ≡ f ++ 0 ∷ more → more ≡ s ++ 0 ∷ rest → 0 ∷ bs ≡ (0 ∷ f ++ 0 ∷ s ++ 0 ∷ []) ++ rest
pair_parts bs f s more rest p q = rw (p, q) (simp append_assoc)

single_parts : (bs f rest : List ℕ) → bs ≡ f ++ 0 ∷ rest → 0 ∷ bs ≡ (0 ∷ f ++ 0 ∷ []) ++ rest
single_parts bs f rest p = rw p (simp append_assoc)

pub pair_takes : (ss : List Entry) (bytes : List ℕ) (x : (List ℕ × List ℕ) × List Entry × List ℕ)
    → pair_at (table_of ss) bytes ≡ Some x → TakenTo table_of (λ f. SpellsPair ss f x.0.0 x.0.1) bytes x.1 x.2
unfolding pair_at
pair_takes ss [] x e = absurd cc
pair_takes ss (b ∷ bs) x e =
    chosen (eqb b 0)
    (and_then (until_nul_at bs)
    (λ f. and_then (until_nul_at f.1) (λ s. Some ((f.0, s.0), entered (table_of ss) (Pair f.0 s.0), s.1))))
    (and_then (unsigned_at (b ∷ bs)) (λ k. and_then (pair_of (latest (table_of ss) k.0))
    (λ p. Some (p, table_of ss, k.1)))) (Some x) e
    (TakenTo table_of (λ f. SpellsPair ss f x.0.0 x.0.1) (b ∷ bs) x.1 x.2)
    (λ nul is.
    let f = some_then (until_nul_at bs) (λ f. and_then (until_nul_at f.1) (λ s. Some ((f.0, s.0), entered (table_of ss) (Pair f.0 s.0), s.1))) x is in
    let s = some_then (until_nul_at f.0.1) (λ s. Some ((f.0.0, s.0), entered (table_of ss) (Pair f.0.0 s.0), s.1)) x f.2 in
    let t : Before f.0.0 bs f.0.1 = until_takes bs f.0 f.1 in
    let u : Before s.0.0 f.0.1 s.0.1 = until_takes f.0.1 s.0 s.1 in
    let z : b ≡ 0 = grind (arith, nat_tests) in
    let whole : b ∷ bs ≡ (0 ∷ f.0.0 ++ 0 ∷ s.0.0 ++ 0 ∷ []) ++ s.0.1 = ap (λ (i : ℕ). i ∷ bs) z ∙ pair_parts bs f.0.0 s.0.0 f.0.1 s.0.1 t.parts u.parts in
    subst (λ (p : (List ℕ × List ℕ) × List Entry × List ℕ). TakenTo table_of (λ f. SpellsPair ss f p.0.0 p.0.1)
    (b ∷ bs) p.1 p.2) (same_Some ((f.0.0, s.0.0), entered (table_of ss) (Pair f.0.0 s.0.0), s.0.1) x s.2)
    (record {
      prefix = 0 ∷ f.0.0 ++ 0 ∷ s.0.0 ++ 0 ∷ [];
      after = ss ++ Pair f.0.0 s.0.0 ∷ [];
      parts = whole;
      spelled = in_line ss f.0.0 s.0.0 t.no_nul u.no_nul;
      same = entered_is ss (Pair f.0.0 s.0.0);
    }))
    (λ other is.
    let k = some_then (unsigned_at (b ∷ bs)) (λ k. and_then (pair_of (latest (table_of ss) k.0)) (λ p. Some (p, table_of ss, k.1))) x is in
    let p = some_then (pair_of (latest (table_of ss) k.0.0)) (λ p. Some (p, table_of ss, k.0.1)) x k.2 in
    let t = unsigned_takes (b ∷ bs) k.0 k.1 in
    subst (λ (q : (List ℕ × List ℕ) × List Entry × List ℕ). TakenTo table_of (λ f. SpellsPair ss f q.0.0 q.0.1)
    (b ∷ bs) q.1 q.2) (same_Some (p.0, table_of ss, k.0.1) x p.2)
    (record {
      prefix = t.prefix;
      after = ss;
      parts = t.parts;
      spelled = reference ss t.prefix k.0.0 p.0.0 p.0.1 t.spelled (sym (latest_is (entries_of ss) k.0.0) ∙ pair_of_is (latest (table_of ss) k.0.0) p.0 p.1);
      same = refl;
    }))

pub pair_again : (ss : List Entry) (prefix first second : List ℕ) (after : List Entry) (rest : List ℕ)
    → SpellsPair ss prefix first second after → pair_at (table_of ss) (prefix ++ rest) ≡
    Some ((first, second), table_of after, rest)
unfolding pair_at
pair_again _ _ _ _ _ rest (in_line ss first second no_first no_second) =
    let one : until_nul_at (first ++ 0 ∷ (second ++ 0 ∷ rest)) ≡ Some (first, second ++ 0 ∷ rest) = until_again first (second ++ 0 ∷ rest) no_first in
    let two : until_nul_at (second ++ 0 ∷ rest) ≡ Some (second, rest) = until_again second rest no_second in
    let whole : ((first ++ 0 ∷ second) ++ 0 ∷ []) ++ rest ≡ first ++ 0 ∷ (second ++ 0 ∷ rest) = simp append_assoc in
    rw (whole, one, two, entered_is ss (Pair first second)) refl
pair_again _ _ _ _ _ rest (reference ss [] k first second spells is) = absurd spells.varint
pair_again _ _ _ _ _ rest (reference ss (b ∷ bs) k first second spells is) =
    let other : eqb b 0 ≡ false = reference_starts b bs k (entries_of ss) (Pair first second) spells is in
    let number : unsigned_at (b ∷ bs ++ rest) ≡ Some (k, rest) = unsigned_again (b ∷ bs) k rest spells in
    let found : latest (table_of ss) k ≡ Some (Pair first second) = latest_is (entries_of ss) k ∙ is in
    rw (other, number, found) refl

pub pair_some : (ss : List Entry) (prefix first second : List ℕ) (after : List Entry) → SpellsPair ss prefix first second after → 0 < length prefix
pair_some _ _ _ _ _ (in_line ss first second no_first no_second) = omega arith
pair_some _ _ _ _ _ (reference ss bytes k first second spells is) = number_some bytes k spells

-- ---- single strings

pub single_takes : (ss : List Entry) (bytes : List ℕ) (x : List ℕ × List Entry × List ℕ)
    → single_at (table_of ss) bytes ≡ Some x → TakenTo table_of (λ f. SpellsSingle ss f x.0) bytes x.1 x.2
unfolding single_at
single_takes ss [] x e = absurd cc
single_takes ss (b ∷ bs) x e =
    chosen (eqb b 0) (and_then (until_nul_at bs) (λ t. Some (t.0, entered (table_of ss) (Single t.0), t.1)))
    (and_then (unsigned_at (b ∷ bs)) (λ k. and_then (single_of (latest (table_of ss) k.0))
    (λ t. Some (t, table_of ss, k.1)))) (Some x) e
    (TakenTo table_of (λ f. SpellsSingle ss f x.0) (b ∷ bs) x.1 x.2)
    (λ nul is.
    let f = some_then (until_nul_at bs) (λ t. Some (t.0, entered (table_of ss) (Single t.0), t.1)) x is in
    let t : Before f.0.0 bs f.0.1 = until_takes bs f.0 f.1 in
    let z : b ≡ 0 = grind (arith, nat_tests) in
    let whole : b ∷ bs ≡ (0 ∷ f.0.0 ++ 0 ∷ []) ++ f.0.1 = ap (λ (i : ℕ). i ∷ bs) z ∙ single_parts bs f.0.0 f.0.1 t.parts in
    subst (λ (p : List ℕ × List Entry × List ℕ). TakenTo table_of (λ f. SpellsSingle ss f p.0) (b ∷ bs) p.1 p.2)
    (same_Some (f.0.0, entered (table_of ss) (Single f.0.0), f.0.1) x f.2)
    (record {
      prefix = 0 ∷ f.0.0 ++ 0 ∷ [];
      after = ss ++ Single f.0.0 ∷ [];
      parts = whole;
      spelled = in_line_single ss f.0.0 t.no_nul;
      same = entered_is ss (Single f.0.0);
    }))
    (λ other is.
    let k = some_then (unsigned_at (b ∷ bs)) (λ k. and_then (single_of (latest (table_of ss) k.0)) (λ t. Some (t, table_of ss, k.1))) x is in
    let p = some_then (single_of (latest (table_of ss) k.0.0)) (λ t. Some (t, table_of ss, k.0.1)) x k.2 in
    let t = unsigned_takes (b ∷ bs) k.0 k.1 in
    subst (λ (q : List ℕ × List Entry × List ℕ). TakenTo table_of (λ f. SpellsSingle ss f q.0) (b ∷ bs) q.1 q.2) (same_Some (p.0, table_of ss, k.0.1) x p.2)
    (record {
      prefix = t.prefix;
      after = ss;
      parts = t.parts;
      spelled = reference_single ss t.prefix k.0.0 p.0 t.spelled (sym (latest_is (entries_of ss) k.0.0) ∙ single_of_is (latest (table_of ss) k.0.0) p.0 p.1);
      same = refl;
    }))

pub single_again : (ss : List Entry) (prefix text : List ℕ) (after : List Entry) (rest : List ℕ)
    → SpellsSingle ss prefix text after → single_at (table_of ss) (prefix ++ rest) ≡ Some (text, table_of after, rest)
unfolding single_at
single_again _ _ _ _ rest (in_line_single ss text no_nul) =
    let one : until_nul_at (text ++ 0 ∷ rest) ≡ Some (text, rest) = until_again text rest no_nul in
    let whole : (text ++ 0 ∷ []) ++ rest ≡ text ++ 0 ∷ rest = simp append_assoc in
    rw (whole, one, entered_is ss (Single text)) refl
single_again _ _ _ _ rest (reference_single ss [] k text spells is) = absurd spells.varint
single_again _ _ _ _ rest (reference_single ss (b ∷ bs) k text spells is) =
    let other : eqb b 0 ≡ false = reference_starts b bs k (entries_of ss) (Single text) spells is in
    let number : unsigned_at (b ∷ bs ++ rest) ≡ Some (k, rest) = unsigned_again (b ∷ bs) k rest spells in
    let found : latest (table_of ss) k ≡ Some (Single text) = latest_is (entries_of ss) k ∙ is in
    rw (other, number, found) refl

-- ---- texts

or_false : (a b : Bool) → (a || b) ≡ false → (a ≡ false) × (b ≡ false)
or_false true b e = absurd cc
or_false false b e = (refl, e)

has_nul_is : (bs : List ℕ) → has_nul bs ≡ false → ¬ Contains bs 0
has_nul_is [] e = λ c. omega (arith, c.1)
has_nul_is (b ∷ bs) e =
    let h = or_false (eqb b 0) (has_nul bs) e in
    let first : eqb b 0 ≡ false = h.0 in
    let n : b ≢ 0 = grind (arith, nat_tests) in
    none_before b bs n (has_nul_is bs h.1)

has_nul_again : (bs : List ℕ) → ¬ Contains bs 0 → has_nul bs ≡ false
has_nul_again [] none = refl
has_nul_again (b ∷ bs) none =
    let n : b ≢ 0 = λ z. none (0, omega arith, z) in
    let t : eqb b 0 ≡ false = grind (arith, nat_tests) in
    rw t (has_nul_again bs (λ c. none (suc c.0, omega (arith, c.1), c.2)))

not_true : (b : Bool) → not b ≡ true → b ≡ false
not_true true e = absurd cc
not_true false e = refl

pub is_text_is : (bs : List ℕ) → is_text bs ≡ true → IsText bs
unfolding is_text
is_text_is bs e =
    let a = both_held (is_utf8 bs) (not (has_nul bs) && leb (length bs) 1020) e in
    let b = both_held (not (has_nul bs)) (leb (length bs) 1020) a.1 in
    let short : leb (length bs) 1020 ≡ true = b.1 in
    record { utf8 = IsUtf8-from_is_utf8 bs a.0; no_nul = has_nul_is bs (not_true (has_nul bs) b.0); short = grind (arith, nat_tests) }

pub is_text_again : (bs : List ℕ) → IsText bs → is_text bs ≡ true
unfolding is_text
is_text_again bs t =
    let small : length bs ≤ 1020 = t.short in
    let short : leb (length bs) 1020 ≡ true = grind (arith, nat_tests) in
    rw (is_utf8-from_IsUtf8 bs t.utf8, has_nul_again bs t.no_nul, short) refl

pub text_takes : (bs t : List ℕ) → text_of bs ≡ Some t → (bs ≡ t) × IsText t
unfolding text_of
text_takes bs t e =
    let g = some_when (is_text bs) (Some bs) t e in
    let same : bs ≡ t = same_Some bs t g.1 in
    (same, subst IsText same (is_text_is bs g.0))

pub text_again : (bs : List ℕ) → IsText bs → text_of bs ≡ Some bs
unfolding text_of
text_again bs t = rw (is_text_again bs t) refl

is_text_true : (b : Bool) → (b ≡ true → ⊥) → b ≡ false
is_text_true true h = absurd (h refl)
is_text_true false h = refl

-- the answer for bytes that aren't a text
pub text_none : (bs : List ℕ) → (IsText bs → ⊥) → text_of bs ≡ None
unfolding text_of
text_none bs h = rw (is_text_true (is_text bs) (λ e. h (is_text_is bs e))) refl

pub text_found : (bs s t : List ℕ) → t ≡ s → s ≡ bs → IsText s → text_of bs ≡ Some t
text_found bs s t e f h = rw (e, f) (text_again bs (subst IsText f h))
