-- What is written for numbers and strings spells them, and how long it is.
use Rattle.std.proofs.Common.{◌≡◌, ℕ, zero, suc, ◌+◌, ◌*◌, ◌/◌, ◌%◌, ◌^◌, ◌<◌, ◌≤◌, true, false, ltb, List, [], ◌∷◌, ◌++◌, length, refl, ap, arith, inl, inr}
use Rattle.std.specs.Prelude.{ℤ, pos, negsuc, neg_ℤ, ◌+ℤ◌, ◌-ℤ◌, ◌≤ℤ◌, Contains}
use Rattle.std.proofs.lemmas.Bool.{cases_lt}
use Rattle.std.proofs.lemmas.Bool.Decides.{nat_tests}
use Rattle.std.proofs.lemmas.Int.{ints}
use Rattle.std.proofs.lemmas.List.{length-append}
use Rattle.osm_o5c.specs.Number.{IsVarint, varint_value, SpellsNumber, SpellsSigned, zigzag}
use Rattle.osm_o5c.specs.Context.{total, IsWrapped, SpellsSum, SpellsWrapped}
use Rattle.osm_o5c.specs.Shortest.{IsShortestSum, IsShortestWrapped}
use Rattle.osm_o5c.specs.Written.{varint_text, number_text, signed_text, difference_text, pair_in_line, single_in_line}
use Rattle.osm_o5c.proofs.CounterLemmas.{total-push, wrapped_total}
use Rattle.osm_o5c.proofs.WrapLemmas.{wrapped_is, wrapped_same}
use Rattle.osm_o5c.proofs.StringLemmas.{none_before}

-- ---- varints

-- how many numbers varints of this many bytes can spell
abbrev capacity : ℕ → ℕ
capacity zero = 1
capacity (suc k) = 128 * capacity k

record TakesVarint (most n : ℕ) (text : List ℕ) : Type 0 where
  varint : IsVarint text
  value : n ≡ varint_value text
  short : length text ≤ most

byte_low : (k n : ℕ) → n < 128 → varint_text (suc k) n ≡ n ∷ []
unfolding varint_text
byte_low k n small = let t : ltb n 128 ≡ true = grind (arith, nat_tests) in rw t refl

byte_high : (k n : ℕ) → 128 ≤ n → varint_text (suc k) n ≡ (n % 128 + 128) ∷ varint_text k (n / 128)
unfolding varint_text
byte_high k n big = let t : ltb n 128 ≡ false = grind (arith, nat_tests) in rw t refl

one_byte : (most n : ℕ) → n < 128 → TakesVarint (suc most) n (n ∷ [])
one_byte most n small = record { varint = small; value = omega arith; short = omega arith }

byte_on : (most n : ℕ) (text : List ℕ) → TakesVarint most (n / 128) text → TakesVarint (suc most) n ((n % 128 + 128) ∷ text)
byte_on most n [] g = absurd g.varint
byte_on most n (c ∷ cs) g =
    let value : n / 128 ≡ varint_value (c ∷ cs) = g.value in
    let short : length (c ∷ cs) ≤ most = g.short in
    record { varint = (omega arith, g.varint); value = omega arith; short = omega arith }

takes_varint : (k n : ℕ) → n < capacity (suc k) → TakesVarint (suc k) n (varint_text (suc k) n)
takes_varint zero n h = rw (byte_low zero n (omega arith)) (one_byte zero n (omega arith))
takes_varint (suc k) n h =
    elim (cases_lt n 128) [
      | inl small ↦ rw (byte_low (suc k) n small) (one_byte (suc k) n small)
      | inr big ↦ rw (byte_high (suc k) n big) (byte_on (suc k) n (varint_text (suc k) (n / 128)) (takes_varint k (n / 128) (omega arith)))
    ]

pub number_spells : (n : ℕ) → n < 2 ^ 64 → SpellsNumber (number_text n) n
number_spells n h =
    let g : TakesVarint 10 n (varint_text 10 n) = takes_varint 9 n (omega arith) in
    record { varint = g.varint; value = g.value; short = g.short; small = h }

varint_short : (k n : ℕ) → length (varint_text k n) ≤ k
unfolding varint_text
varint_short zero n = omega arith
varint_short (suc k) n =
    elim (cases_lt n 128) [
      | inl small ↦ rw (byte_low k n small) (omega arith)
      | inr big ↦ rw (byte_high k n big) (omega (arith, varint_short k (n / 128)))
    ]

-- no varint of the number is shorter
fewest : (k n : ℕ) (bytes : List ℕ) → IsVarint bytes → n ≡ varint_value bytes → length (varint_text k n) ≤ length bytes
unfolding varint_text
fewest k n [] g e = absurd g
fewest zero n (b ∷ bs) g e = omega arith
fewest (suc k) n (b ∷ []) g e =
    let small : n < 128 = omega arith in
    rw (byte_low k n small) (omega arith)
fewest (suc k) n (b ∷ c ∷ bs) g e =
    elim (cases_lt n 128) [
      | inl small ↦ rw (byte_low k n small) (omega arith)
      | inr big ↦
          let high : n / 128 ≡ varint_value (c ∷ bs) = omega arith in
          rw (byte_high k n big) (omega (arith, fewest k (n / 128) (c ∷ bs) g.1 high))
    ]

pub fewest_bytes : (bytes : List ℕ) (n : ℕ) → SpellsNumber bytes n → length (number_text n) ≤ length bytes
fewest_bytes bytes n s = fewest 10 n bytes s.varint s.value

pub fewest_signed : (bytes : List ℕ) (v : ℤ) → SpellsSigned bytes v → length (signed_text v) ≤ length bytes
fewest_signed bytes v s = fewest_bytes bytes (zigzag v) s.unsigned

pub number_short : (n : ℕ) → length (number_text n) ≤ 10
number_short n = varint_short 10 n

varint_no_nul : (k n : ℕ) → 1 ≤ n → ¬ Contains (varint_text k n) 0
unfolding varint_text
varint_no_nul zero n some = λ c. omega (arith, c.1)
varint_no_nul (suc k) n some =
    elim (cases_lt n 128) [
      | inl small ↦ rw (byte_low k n small) (none_before n [] (λ z. omega arith) (λ c. omega (arith, c.1)))
      | inr big ↦ rw (byte_high k n big) (none_before (n % 128 + 128) (varint_text k (n / 128)) (λ z. omega arith) (varint_no_nul k (n / 128) (omega arith)))
    ]

pub number_no_nul : (n : ℕ) → 1 ≤ n → ¬ Contains (number_text n) 0
number_no_nul n some = varint_no_nul 10 n some

-- ---- differences

zigzag_small : (z : ℤ) → neg_ℤ (pos 9223372036854775808) ≤ℤ z → z ≤ℤ pos 9223372036854775807 → zigzag z < 2 ^ 64
zigzag_small (pos n) low high = omega (arith, ints)
zigzag_small (negsuc n) low high = omega (arith, ints)

pub signed_spells : (z : ℤ) → neg_ℤ (pos 9223372036854775808) ≤ℤ z → z ≤ℤ pos 9223372036854775807 → SpellsSigned (signed_text z) z
signed_spells z low high = record { unsigned = number_spells (zigzag z) (zigzag_small z low high) }

-- a written difference, and the differences after it
pub sum_spells : (before : List ℤ) (v : ℤ) → neg_ℤ (pos 9223372036854775808) ≤ℤ (v -ℤ total before)
    → (v -ℤ total before) ≤ℤ pos 9223372036854775807 → SpellsSum before (difference_text (total before) v) v
    (before ++ (v -ℤ total before) ∷ [])
sum_spells before v low high = record {
  difference = v -ℤ total before;
  signed = signed_spells (v -ℤ total before) low high;
  added = refl;
  sum_is = let t : total (before ++ (v -ℤ total before) ∷ []) ≡ total before +ℤ (v -ℤ total before) =
      total-push before (v -ℤ total before) in omega (arith, ints);
}

-- a written difference from a counter
pub record SumWritten (before : List ℤ) (counter v : ℤ) : Type 0 where
  pub spells : SpellsSum before (difference_text counter v) v (before ++ (v -ℤ total before) ∷ [])
  pub shortest : IsShortestSum spells

pub sum_written : (before : List ℤ) (v : ℤ) → neg_ℤ (pos 9223372036854775808) ≤ℤ (v -ℤ total before)
    → (v -ℤ total before) ≤ℤ pos 9223372036854775807 → SumWritten before (total before) v
unfolding sum_spells
sum_written before v low high = record { spells = sum_spells before v low high; shortest = (λ other s. fewest_bytes other (zigzag (v -ℤ total before)) s) }

pub sum_after : (before : List ℤ) (v : ℤ) → total (before ++ (v -ℤ total before) ∷ []) ≡ v
sum_after before v = let t : total (before ++ (v -ℤ total before) ∷ []) ≡ total before +ℤ (v -ℤ total before) =
    total-push before (v -ℤ total before) in omega (arith, ints)

pub wrapped_spells : (before : List ℤ) (v : ℤ) → neg_ℤ (pos 2147483648) ≤ℤ v → v ≤ℤ pos 2147483647
    → SpellsWrapped before (difference_text (wrapped_total before) v) v (before ++ (v -ℤ wrapped_total before) ∷ [])
wrapped_spells before v low high =
    let w : IsWrapped (wrapped_total before) (total before) = wrapped_is (total before) in
    let wl = w.low in
    let wh = w.high in
    let t : total (before ++ (v -ℤ wrapped_total before) ∷ []) ≡ total before +ℤ (v -ℤ wrapped_total before) = total-push before (v -ℤ wrapped_total before) in
    record {
      difference = v -ℤ wrapped_total before;
      signed = signed_spells (v -ℤ wrapped_total before) (omega (arith, ints)) (omega (arith, ints));
      added = refl;
      wrapped = record { multiple = w.multiple; low = low; high = high; differs = omega (arith, ints, w.differs) };
    }

pub record WrappedWritten (before : List ℤ) (counter v : ℤ) : Type 0 where
  pub spells : SpellsWrapped before (difference_text counter v) v (before ++ (v -ℤ counter) ∷ [])
  pub shortest : IsShortestWrapped spells

pub wrapped_written : (before : List ℤ) (v : ℤ) → neg_ℤ (pos 2147483648) ≤ℤ v → v ≤ℤ pos 2147483647 → WrappedWritten before (wrapped_total before) v
unfolding wrapped_spells
wrapped_written before v low high = record {
  spells = wrapped_spells before v low high;
  shortest = ((λ other s. fewest_bytes other (zigzag (v -ℤ wrapped_total before)) s), (λ last w. ap (λ (t : ℤ). v -ℤ t) (wrapped_same last (total before) w)));
}

pub wrapped_after : (before : List ℤ) (v : ℤ) → neg_ℤ (pos 2147483648) ≤ℤ v → v ≤ℤ pos 2147483647
    → wrapped_total (before ++ (v -ℤ wrapped_total before) ∷ []) ≡ v
wrapped_after before v low high =
    let s : SpellsWrapped before (difference_text (wrapped_total before) v) v (before ++ (v -ℤ wrapped_total before) ∷ []) = wrapped_spells before v low high in
    wrapped_same v (total (before ++ (v -ℤ wrapped_total before) ∷ [])) s.wrapped

-- ---- strings

pub pair_length : (first second : List ℕ) → length (pair_in_line first second) ≡ length first + length second + 3
pair_length first second = omega (arith, length-append (0 ∷ first ++ 0 ∷ second) (0 ∷ []), length-append first (0 ∷ second))

pub single_length : (text : List ℕ) → length (single_in_line text) ≡ length text + 2
single_length text = omega (arith, length-append text (0 ∷ []))
