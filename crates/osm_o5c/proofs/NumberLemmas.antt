-- A number that is read is spelled, and what is spelled is read.
use Rattle.std.proofs.Common.{◌≡◌, ℕ, zero, suc, ◌+◌, ◌*◌, ◌/◌, ◌%◌, ◌^◌, ◌<◌, ◌≤◌, true, false, eqb, ltb, leb, List}
use Rattle.std.proofs.Common.{[], ◌∷◌, ◌++◌, length, take, drop, Some, refl, sym, ap, subst, ◌∙◌, append_assoc, arith}
use Rattle.std.specs.Prelude.{ℤ, pos, negsuc}
use Rattle.std.proofs.lemmas.Bool.Decides.{nat_tests}
use Rattle.std.proofs.lemmas.Option.{same_Some}
use Rattle.std.proofs.lemmas.List.{take_at, drop_at, take-append-drop, length-take, length-append}
use Rattle.osm_model.specs.Limits.{IsPositive}
use Rattle.osm_o5c.specs.Number.{IsVarint, varint_value, SpellsNumber, SpellsSigned, zigzag}
use Rattle.osm_o5c.specs.NumberReading.{varint_at, unsigned_at, signed_at, from_zigzag, part_at, positive_at, is_positive}
use Rattle.osm_reading.specs.Answers.{when}
use Rattle.osm_reading.proofs.StepLemmas.{some_then, some_when, chosen, both_held}
use Rattle.osm_o5c.proofs.TakenLemmas.{Taken, parts_then}

-- ---- unsigned numbers

-- the prefix is a varint of at most this many bytes
record TakesVarint (most n : ℕ) (prefix : List ℕ) : Type 0 where
  varint : IsVarint prefix
  value : n ≡ varint_value prefix
  short : length prefix ≤ most
  small : n < 2 ^ 64

one_more : (most b n high : ℕ) (prefix : List ℕ) → 128 ≤ b → n ≡ b % 128 + 128 * high → n < 2 ^ 64
    → TakesVarint most high prefix → TakesVarint (suc most) n (b ∷ prefix)
one_more most b n high [] big e small g = absurd g.varint
one_more most b n high (c ∷ cs) big e small g = record {
  varint = (big, g.varint);
  value = e ∙ ap (λ (h : ℕ). b % 128 + 128 * h) g.value;
  short = let s : length (c ∷ cs) ≤ most = g.short in omega arith;
  small = small;
}

varint_take : (most : ℕ) (bytes : List ℕ) (x : ℕ × List ℕ) → varint_at most bytes ≡ Some x → Taken (TakesVarint most x.0) bytes x.1
unfolding varint_at
varint_take zero bytes x e = absurd cc
varint_take (suc k) [] x e = absurd cc
varint_take (suc k) (b ∷ bs) x e =
    chosen (ltb b 128) (Some (b, bs)) _ (Some x) e (Taken (TakesVarint (suc k) x.0) (b ∷ bs) x.1)
    (λ low is.
    let small : b < 128 = grind (arith, nat_tests) in
    subst (λ (p : ℕ × List ℕ). Taken (TakesVarint (suc k) p.0) (b ∷ bs) p.1) (same_Some (b, bs) x is)
    (record { prefix = b ∷ []; parts = refl; spelled = record { varint = small; value = omega arith; short = omega arith; small = omega arith } }))
    (λ high is.
    let big : 128 ≤ b = grind (arith, nat_tests) in
    let h = some_then (varint_at k bs) (λ h. when (ltb (b % 128 + 128 * h.0) (2 ^ 64)) (Some (b % 128 + 128 * h.0, h.1))) x is in
    let g = some_when (ltb (b % 128 + 128 * h.0.0) (2 ^ 64)) (Some (b % 128 + 128 * h.0.0, h.0.1)) x h.2 in
    let t : Taken (TakesVarint k h.0.0) bs h.0.1 = varint_take k bs h.0 h.1 in
    let fits : b % 128 + 128 * h.0.0 < 2 ^ 64 = let q : ltb (b % 128 + 128 * h.0.0) (2 ^ 64) ≡ true = g.0 in grind (arith, nat_tests) in
    subst (λ (p : ℕ × List ℕ). Taken (TakesVarint (suc k) p.0) (b ∷ bs) p.1) (same_Some (b % 128 + 128 * h.0.0, h.0.1) x g.1)
    (record {
      prefix = b ∷ t.prefix;
      parts = ap (λ (l : List ℕ). b ∷ l) t.parts;
      spelled =
          one_more k b (b % 128 + 128 * h.0.0) h.0.0 t.prefix big refl fits t.spelled;
    }))

varint_again : (most : ℕ) (prefix : List ℕ) (n : ℕ) (rest : List ℕ) → TakesVarint most n prefix → varint_at most (prefix ++ rest) ≡ Some (n, rest)
unfolding varint_at
varint_again most [] n rest g = absurd g.varint
varint_again zero (b ∷ bs) n rest g = let s : length (b ∷ bs) ≤ 0 = g.short in absurd (omega arith)
varint_again (suc k) (b ∷ []) n rest g =
    let lt : b < 128 = g.varint in
    let low : ltb b 128 ≡ true = grind (arith, nat_tests) in
    let value : n ≡ b % 128 + 128 * 0 = g.value in
    let same : b ≡ n = omega arith in
    rw (low, same) refl
varint_again (suc k) (b ∷ c ∷ bs) n rest g =
    let big : 128 ≤ b = g.varint.0 in
    let value : n ≡ b % 128 + 128 * varint_value (c ∷ bs) = g.value in
    let s : length (b ∷ c ∷ bs) ≤ suc k = g.short in
    let small : n < 2 ^ 64 = g.small in
    let high : ltb b 128 ≡ false = grind (arith, nat_tests) in
    let inner : varint_at k (c ∷ bs ++ rest) ≡ Some (varint_value (c ∷ bs), rest) =
    varint_again k (c ∷ bs) (varint_value (c ∷ bs)) rest (record {
      varint = g.varint.1;
      value = refl;
      short =
          omega arith;
      small = omega arith;
    }) in
    let fits : ltb (b % 128 + 128 * varint_value (c ∷ bs)) (2 ^ 64) ≡ true = rw (← value) (grind (arith, nat_tests)) in
    rw (high, inner, fits, ← value) refl

pub unsigned_takes : (bytes : List ℕ) (x : ℕ × List ℕ) → unsigned_at bytes ≡ Some x → Taken (λ f. SpellsNumber f x.0) bytes x.1
unsigned_takes bytes x e =
    let t = varint_take 10 bytes x e in
    record {
      prefix = t.prefix;
      parts = t.parts;
      spelled = record {
        varint = t.spelled.varint;
        value = t.spelled.value;
        short = t.spelled.short;
        small = t.spelled.small;
      };
    }

-- no spelling of a number is a prefix of another: the number and the bytes after it are the only ones
pub unsigned_again : (prefix : List ℕ) (n : ℕ) (rest : List ℕ) → SpellsNumber prefix n → unsigned_at (prefix ++ rest) ≡ Some (n, rest)
unsigned_again prefix n rest s = varint_again 10 prefix n rest (record { varint = s.varint; value = s.value; short = s.short; small = s.small })

pub number_some : (prefix : List ℕ) (n : ℕ) → SpellsNumber prefix n → 0 < length prefix
number_some [] n s = absurd s.varint
number_some (b ∷ bs) n s = omega arith

-- ---- signed numbers

zigzag-from_zigzag : (n : ℕ) → zigzag (from_zigzag n) ≡ n
zigzag-from_zigzag n = chosen (eqb (n % 2) 0) (pos (n / 2)) (negsuc (n / 2)) (from_zigzag n) refl (zigzag (from_zigzag n) ≡ n)
    (λ t e. rw (← e) (let q : n % 2 ≡ 0 = grind (arith, nat_tests) in omega arith))
    (λ f e. rw (← e) (let q : n % 2 ≡ 0 → ⊥ = grind (arith, nat_tests) in omega arith))

pub from_zigzag-zigzag : (v : ℤ) → from_zigzag (zigzag v) ≡ v
from_zigzag-zigzag (pos n) =
    let q : 2 * n % 2 ≡ 0 = omega arith in
    let h : 2 * n / 2 ≡ n = omega arith in
    rw (q, h) refl
from_zigzag-zigzag (negsuc n) =
    let q : (2 * n + 1) % 2 ≡ 1 = omega arith in
    let h : (2 * n + 1) / 2 ≡ n = omega arith in
    rw (q, h) refl

pub signed_takes : (bytes : List ℕ) (x : ℤ × List ℕ) → signed_at bytes ≡ Some x → Taken (λ f. SpellsSigned f x.0) bytes x.1
unfolding signed_at
signed_takes bytes x e =
    let n = some_then (unsigned_at bytes) (λ n. Some (from_zigzag n.0, n.1)) x e in
    let t = unsigned_takes bytes n.0 n.1 in
    subst (λ (p : ℤ × List ℕ). Taken (λ f. SpellsSigned f p.0) bytes p.1) (same_Some (from_zigzag n.0.0, n.0.1) x n.2)
    (record { prefix = t.prefix; parts = t.parts; spelled = record { unsigned = rw (zigzag-from_zigzag n.0.0) t.spelled } })

pub signed_again : (prefix : List ℕ) (v : ℤ) (rest : List ℕ) → SpellsSigned prefix v → signed_at (prefix ++ rest) ≡ Some (v, rest)
unfolding signed_at
signed_again prefix v rest s = rw (unsigned_again prefix (zigzag v) rest s.unsigned, from_zigzag-zigzag v) refl

-- ---- numbers within the limits

pub is_positive_is : (n : ℕ) → is_positive n ≡ true → IsPositive n
is_positive_is n e =
    let h = both_held (leb 1 n) (ltb n (2 ^ 32)) e in
    let a : leb 1 n ≡ true = h.0 in
    let b : ltb n (2 ^ 32) ≡ true = h.1 in
    record { low = grind (arith, nat_tests); high = grind (arith, nat_tests) }

pub is_positive_again : (n : ℕ) → IsPositive n → is_positive n ≡ true
is_positive_again n p =
    let low : 1 ≤ n = p.low in
    let high : n < 2 ^ 32 = p.high in
    let a : leb 1 n ≡ true = grind (arith, nat_tests) in
    let b : ltb n (2 ^ 32) ≡ true = grind (arith, nat_tests) in
    rw (a, b) refl

-- a number within the limits, and the prefix that spells it
pub record Positive (n : ℕ) (prefix : List ℕ) : Type 0 where
  pub spells : SpellsNumber prefix n
  pub limits : IsPositive n

pub positive_takes : (bytes : List ℕ) (x : ℕ × List ℕ) → positive_at bytes ≡ Some x → Taken (Positive x.0) bytes x.1
unfolding positive_at
positive_takes bytes x e =
    let n = some_then (unsigned_at bytes) (λ n. when (is_positive n.0) (Some n)) x e in
    let g = some_when (is_positive n.0.0) (Some n.0) x n.2 in
    let t = unsigned_takes bytes n.0 n.1 in
    subst (λ (p : ℕ × List ℕ). Taken (Positive p.0) bytes p.1) (same_Some n.0 x g.1)
    (record { prefix = t.prefix; parts = t.parts; spelled = record { spells = t.spelled; limits = is_positive_is n.0.0 g.0 } })

pub positive_again : (prefix : List ℕ) (n : ℕ) (rest : List ℕ) → SpellsNumber prefix n → IsPositive n → positive_at (prefix ++ rest) ≡ Some (n, rest)
unfolding positive_at
positive_again prefix n rest s p = rw (unsigned_again prefix n rest s, is_positive_again n p) refl

-- ---- a length and its bytes

pub record Part (part prefix : List ℕ) : Type 0 where
  pub length_bytes : List ℕ
  pub spells : SpellsNumber length_bytes (length part)
  pub whole : prefix ≡ length_bytes ++ part

pub part_takes : (bytes : List ℕ) (x : List ℕ × List ℕ) → part_at bytes ≡ Some x → Taken (Part x.0) bytes x.1
unfolding part_at
part_takes bytes x e =
    let n = some_then (unsigned_at bytes) (λ n. when (leb n.0 (length n.1)) (Some (take n.0 n.1, drop n.0 n.1))) x e in
    let g = some_when (leb n.0.0 (length n.0.1)) (Some (take n.0.0 n.0.1, drop n.0.0 n.0.1)) x n.2 in
    let t = unsigned_takes bytes n.0 n.1 in
    let fits : n.0.0 ≤ length n.0.1 = let q : leb n.0.0 (length n.0.1) ≡ true = g.0 in grind (arith, nat_tests) in
    let size : length (take n.0.0 n.0.1) ≡ n.0.0 = omega (arith, length-take n.0.0 n.0.1) in
    subst (λ (p : List ℕ × List ℕ). Taken (Part p.0) bytes p.1) (same_Some (take n.0.0 n.0.1, drop n.0.0 n.0.1) x g.1)
    (record {
      prefix = t.prefix ++ take n.0.0 n.0.1;
      parts = parts_then bytes t.prefix (take n.0.0 n.0.1) n.0.1 (drop n.0.0 n.0.1) t.parts (sym (take-append-drop n.0.0 n.0.1));
      spelled = record { length_bytes = t.prefix; spells = rw size t.spelled; whole = refl };
    })

pub part_again : (length_bytes part rest : List ℕ) → SpellsNumber length_bytes (length part) → part_at (length_bytes ++ part ++ rest) ≡ Some (part, rest)
unfolding part_at
part_again length_bytes part rest s =
    let number : unsigned_at (length_bytes ++ (part ++ rest)) ≡ Some (length part, part ++ rest) = unsigned_again length_bytes (length part) (part ++ rest) s in
    let fits : leb (length part) (length (part ++ rest)) ≡ true = let o : length part ≤ length (part ++ rest) =
    omega (arith, length-append part rest) in grind (arith, nat_tests) in
    rw (append_assoc length_bytes part rest, number, fits, take_at part rest (length part) refl, drop_at part rest (length part) refl) refl
