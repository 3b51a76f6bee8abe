-- Digits one at a time.
use Rattle.std.proofs.Common.{◌≡◌, ℕ, zero, suc, ◌+◌, ◌-◌, ◌*◌, ◌^◌, ◌<◌, ◌≤◌, true, false, cond, ◌&&◌, List, [], ◌∷◌}
use Rattle.std.proofs.Common.{◌++◌, length, get_or, take, Option, Some, None, refl, sym, ap, arith, inl, inr, lit<}
use Rattle.std.proofs.Math.Nat.{pow-le-pow_right}
use Rattle.std.proofs.lemmas.Option.{same_Some}
use Rattle.std.specs.Prelude.{Result, Ok, Err, IfOk, min, option_map, nat_lt, nat_le}
use Rattle.std.specs.Char.{digit_value, is_ascii_digit}
use Rattle.std.specs.Str.Parse.{AllDigits, digits_value, digits_value_after}
use Rattle.std.proofs.lemmas.Bool.Decides.{nat_tests}
use Rattle.std.proofs.lemmas.List.{length-take, take_more, take_all}
use Rattle.std.proofs.lemmas.Str.{digit_value_digit}
use Rattle.std.proofs.lemmas.Str.Parse.{digit_from_value, digits_value_short, numerals_by_value, tells_digits}
use Rattle.std.proofs.lemmas.Bool.{cases_lt}
use Rattle.osm_reading.proofs.StepLemmas.{both_held, guard_some}
use Rattle.osm_model.specs.declared.form.Why.{Why}
use Rattle.osm_reading.specs.Answers.{Finds}
use Rattle.osm_opl.specs.Reading.{all_digits, is_numeral, digits_at, number_at, positive_at}

-- the digits before an index, and their value, capped at `most`
pub record Digits (radix : ℕ) (bytes : List ℕ) (most : ℕ) (i : ℕ) (so_far : ℕ) : Type 0 where
  pub all : all_digits radix (take i bytes) ≡ true
  pub value : so_far ≡ min most (digits_value radix (take i bytes))

pub all_digits-append : (radix : ℕ) (xs ys : List ℕ) → all_digits radix (xs ++ ys) ≡ (all_digits radix xs && all_digits radix ys)
all_digits-append radix [] ys = refl
all_digits-append radix (x ∷ xs) ys = elim (nat_lt (digit_value x) radix) as (λ t. (t && all_digits radix (xs ++ ys)) ≡
    ((t && all_digits radix xs) && all_digits radix ys)) [
      | true ↦ all_digits-append radix xs ys
      | false ↦ refl
    ]

value_after-push : (radix n : ℕ) (xs : List ℕ) (c : ℕ) → digits_value_after radix n (xs ++ c ∷ []) ≡ digits_value_after radix n xs * radix + digit_value c
value_after-push radix n [] c = refl
value_after-push radix n (x ∷ xs) c = value_after-push radix (n * radix + digit_value x) xs c

-- a byte that isn't a digit leaves no numeral
pub not_digits : (radix most : ℕ) (bytes : List ℕ) (i : ℕ) → i < length bytes
    → nat_lt (digit_value (get_or bytes i 0)) radix ≡ false → digits_at radix most bytes ≡ None
unfolding digits_at
not_digits radix most bytes i lt other = rw (some_not bytes i lt other) refl
  where
    some_not : (bytes : List ℕ) (i : ℕ) → i < length bytes → nat_lt (digit_value (get_or bytes i 0)) radix ≡ false → all_digits radix bytes ≡ false
    some_not [] i lt other = absurd (omega arith)
    some_not (b ∷ bs) zero lt other = rw other refl
    some_not (b ∷ bs) (suc i) lt other = elim (nat_lt (digit_value b) radix) as (λ t. (t && all_digits radix bs) ≡ false) [
      | true ↦ some_not bs i (omega arith) other
      | false ↦ refl
    ]

pub digits_none : (radix most : ℕ) (bytes : List ℕ) → (length bytes ≡ 0) → digits_at radix most bytes ≡ None
unfolding digits_at
digits_none radix most [] e = refl
digits_none radix most (b ∷ bs) e = absurd (omega arith)

pub digits_many : (radix most : ℕ) (bytes : List ℕ) → most < length bytes → digits_at radix most bytes ≡ None
unfolding digits_at
digits_many radix most bytes e =
    let t : nat_le (length bytes) most ≡ false = grind (arith, nat_tests) in
    rw t (elim (all_digits radix bytes && nat_le 1 (length bytes)) as
    (λ t. cond (t && false) (Some (digits_value radix bytes)) None ≡ None) [ true ↦ refl | false ↦ refl ])

pub no_digits_yet : (radix most : ℕ) (bytes : List ℕ) → Digits radix bytes most 0 0
no_digits_yet radix most bytes = record { all = refl; value = omega arith }

-- one more digit
pub one_digit : (bytes : List ℕ) (most i so_far d : ℕ) → i < length bytes → Digits 10 bytes most i so_far
    → is_ascii_digit (get_or bytes i 0) ≡ true → d ≡ get_or bytes i 0 - 48
    → Digits 10 bytes most (i + 1) (min (min (so_far * 10) most + d) most)
one_digit bytes most i so_far d lt h digit e =
    let b : ℕ = get_or bytes i 0 in
    let low : 48 ≤ get_or bytes i 0 = grind (arith, nat_tests) in
    let high : get_or bytes i 0 ≤ 57 = grind (arith, nat_tests) in
    let is : digit_value (get_or bytes i 0) + 48 ≡ get_or bytes i 0 = digit_value_digit (get_or bytes i 0) (low, high) in
    let small : nat_lt (digit_value (get_or bytes i 0)) 10 ≡ true = grind (arith, nat_tests) in
    let more : take (i + 1) bytes ≡ take i bytes ++ get_or bytes i 0 ∷ [] = take_more bytes i 0 lt in
    let value : digits_value 10 (take (i + 1) bytes) ≡ digits_value 10 (take i bytes) * 10
    + digit_value (get_or bytes i 0) = rw more (value_after-push 10 0 (take i bytes) (get_or bytes i 0)) in
    let old : so_far ≡ min most (digits_value 10 (take i bytes)) = h.value in
    let every : all_digits 10 (take i bytes) ≡ true = h.all in
    record {
      all = rw (more, all_digits-append 10 (take i bytes) (get_or bytes i 0 ∷ []), every, small) refl;
      value = rw value (omega arith);
    }

pub digits_done : (radix most : ℕ) (bytes : List ℕ) (limit so_far i : ℕ) → length bytes ≡ i → 1 ≤ length bytes
    → length bytes ≤ most → Digits radix bytes limit i so_far → option_map (min limit) (digits_at radix most bytes) ≡
    Some so_far
unfolding digits_at
digits_done radix most bytes limit so_far i e low high h =
    let whole : take i bytes ≡ bytes = take_all i bytes (omega arith) in
    let every : all_digits radix bytes ≡ true = rw whole at h.all in
    let value : so_far ≡ min limit (digits_value radix bytes) = rw whole at h.value in
    let a : nat_le 1 (length bytes) ≡ true = grind (arith, nat_tests) in
    let b : nat_le (length bytes) most ≡ true = grind (arith, nat_tests) in
    rw (every, a, b, value) refl

pub no_numeral : (limit radix most : ℕ) (bytes : List ℕ) → digits_at radix most bytes ≡ None → option_map (min limit) (digits_at radix most bytes) ≡ None
no_numeral limit radix most bytes e = rw e refl

not_decimal : (b : ℕ) → is_ascii_digit b ≡ false → nat_lt (digit_value b) 10 ≡ false
not_decimal b e =
    elim (cases_lt (digit_value b) 10) [
      | inl low ↦ let r = digit_from_value b low in absurd (let h : 48 ≤ b = r.0 in let g : b ≤ 57 = r.1 in grind (arith, nat_tests))
      | inr high ↦ grind (arith, nat_tests)
    ]

-- a byte that isn't a decimal digit leaves no number
pub no_decimal : (most : ℕ) (bytes : List ℕ) (i : ℕ) → i < length bytes → is_ascii_digit (get_or bytes i 0) ≡ false → digits_at 10 most bytes ≡ None
no_decimal most bytes i lt other = not_digits 10 most bytes i lt (not_decimal (get_or bytes i 0) other)

pub each_digit : (radix : ℕ) (bytes : List ℕ) → all_digits radix bytes ≡ true → AllDigits radix bytes
each_digit radix [] all = tt
each_digit radix (b ∷ bs) all =
    let parts = both_held (nat_lt (digit_value b) radix) (all_digits radix bs) all in
    let first : nat_lt (digit_value b) radix ≡ true = parts.0 in
    (grind (arith, nat_tests), each_digit radix bs parts.1)

-- the value of at most `most` decimal digits is below that power of ten
pub few_digits : (most : ℕ) (bytes : List ℕ) → length bytes ≤ most → all_digits 10 bytes ≡ true → digits_value 10 bytes < 10 ^ most
few_digits most bytes short all = digits_value_short (numerals_by_value (AllDigits 10) tells_digits) bytes most (each_digit 10 bytes all) short

pub below_scale : (k : ℕ) → k ≤ 7 → 10 ^ k ≤ 10 ^ 7
below_scale k h = pow-le-pow_right {n = 10} (lit< tt) {i = k} {j = 7} h

-- the value of up to eighteen digits leaves room for one more digit in 64 bits
pub room_for_digit : (bytes : List ℕ) (i so_far : ℕ) → i ≤ 18 → Digits 10 bytes 18446744073709551615 i so_far → so_far < 1000000000000000000
room_for_digit bytes i so_far few h =
    let short : length (take i bytes) ≤ 18 = let n : length (take i bytes) ≡ min i (length bytes) = length-take i bytes in omega arith in
    let small : digits_value 10 (take i bytes) < 10 ^ 18 = few_digits 18 (take i bytes) short h.all in
    omega (arith, small, h.value)

-- one more digit, if there is room
pub one_digit_fits : (bytes : List ℕ) (i so_far : ℕ) → i < length bytes → i ≤ 18
    → Digits 10 bytes 18446744073709551615 i so_far → is_ascii_digit (get_or bytes i 0) ≡ true
    → Digits 10 bytes 18446744073709551615 (i + 1) (10 * so_far + (get_or bytes i 0 - 48))
one_digit_fits bytes i so_far lt few h digit =
    let room : so_far < 1000000000000000000 = room_for_digit bytes i so_far few h in
    let high : get_or bytes i 0 ≤ 57 = grind (arith, nat_tests) in
    let next = one_digit bytes 18446744073709551615 i so_far (get_or bytes i 0 - 48) lt h digit refl in
    let same : min (min (so_far * 10) 18446744073709551615 + (get_or bytes i 0 - 48)) 18446744073709551615 ≡ 10 * so_far
    + (get_or bytes i 0 - 48) = omega arith in
    rw same at next

-- a limit on the number of digits makes no difference to fewer
pub digits_within : (radix most : ℕ) (bytes : List ℕ) → length bytes ≤ most → digits_at radix most bytes ≡ digits_at radix (length bytes) bytes
unfolding digits_at
digits_within radix most bytes h =
    let a : nat_le (length bytes) most ≡ true = grind (arith, nat_tests) in
    let b : nat_le (length bytes) (length bytes) ≡ true = grind (arith, nat_tests) in
    rw (a, b) refl

-- the value of at least one digit and at most `most`
pub record IsNumeralOf (radix most : ℕ) (bytes : List ℕ) (n : ℕ) : Type 0 where
  pub all : all_digits radix bytes ≡ true
  pub some : 1 ≤ length bytes
  pub short : length bytes ≤ most
  pub value : n ≡ digits_value radix bytes

pub digits_take : (radix most : ℕ) (bytes : List ℕ) (n : ℕ) → digits_at radix most bytes ≡ Some n → IsNumeralOf radix most bytes n
unfolding digits_at
digits_take radix most bytes n e =
    let g = guard_some (is_numeral radix most bytes) (Some (digits_value radix bytes)) n e in
    let p = both_held (all_digits radix bytes && nat_le 1 (length bytes)) (nat_le (length bytes) most) g.0 in
    let q = both_held (all_digits radix bytes) (nat_le 1 (length bytes)) p.0 in
    let low : nat_le 1 (length bytes) ≡ true = q.1 in
    let high : nat_le (length bytes) most ≡ true = p.1 in
    record { all = q.0; some = grind (arith, nat_tests); short = grind (arith, nat_tests); value = sym (same_Some (digits_value radix bytes) n g.1) }

pub digits_again : (radix most : ℕ) (bytes : List ℕ) (n : ℕ) → IsNumeralOf radix most bytes n → digits_at radix most bytes ≡ Some n
unfolding digits_at
digits_again radix most bytes n h =
    let a : all_digits radix bytes ≡ true = h.all in
    let some : 1 ≤ length bytes = h.some in
    let short : length bytes ≤ most = h.short in
    let low : nat_le 1 (length bytes) ≡ true = grind (arith, nat_tests) in
    let high : nat_le (length bytes) most ≡ true = grind (arith, nat_tests) in
    rw (a, low, high, ← h.value) refl

pub small_limit : (most n : ℕ) (bytes : List ℕ) → most ≤ 7 → digits_at 10 most bytes ≡ Some n → (n < 10 ^ 7) × (length bytes ≤ most)
small_limit most n bytes h e =
    let t : IsNumeralOf 10 most bytes n = digits_take 10 most bytes n e in
    let few : digits_value 10 bytes < 10 ^ most = few_digits most bytes t.short t.all in
    let scale : 10 ^ most ≤ 10 ^ 7 = below_scale most h in
    let is : n ≡ digits_value 10 bytes = t.value in
    (omega arith, t.short)

-- the greatest number of 64 bits is no limit for at most seven digits
pub small_number : (most : ℕ) (bytes : List ℕ) → most ≤ 7 → option_map (min 18446744073709551615) (digits_at 10 most bytes) ≡ digits_at 10 most bytes
small_number most bytes h = by_option (digits_at 10 most bytes) (λ n e. let l = small_limit most n bytes h e in let lt : n < 10 ^ 7 = l.0 in omega arith)
  where
    by_option : (r : Option ℕ) → ((n : ℕ) → r ≡ Some n → min 18446744073709551615 n ≡ n) → option_map (min 18446744073709551615) r ≡ r
    by_option None h = refl
    by_option (Some n) h = ap (λ (m : ℕ). Some m) (h n refl)

-- the same for what a function found
pub small_found : (most : ℕ) (bytes : List ℕ) (r : Result ℕ Why) → most ≤ 7
    → Finds (λ n. n) r (option_map (min 18446744073709551615) (digits_at 10 most bytes))
    → Finds (λ n. n) r (digits_at 10 most bytes)
small_found most bytes r h f = rw (small_number most bytes h) at f

pub small_bound : (most : ℕ) (bytes : List ℕ) (r : Result ℕ Why) → most ≤ 7 → Finds (λ n. n) r (digits_at 10 most bytes)
    → IfOk r (λ n. (n < 10 ^ 7) × (length bytes ≤ most))
small_bound most bytes (Err e) h f = tt
small_bound most bytes (Ok n) h f = small_limit most n bytes h f

pub not_positive : (bytes : List ℕ) → length bytes ≡ 0 → positive_at bytes ≡ None
unfolding positive_at number_at
not_positive bytes e = rw (digits_none 10 20 bytes e) refl

-- one more hexadecimal digit
pub one_hex_digit : (bytes : List ℕ) (most i so_far d : ℕ) → i < length bytes → Digits 16 bytes most i so_far → d < 16
    → d ≡ digit_value (get_or bytes i 0) → Digits 16 bytes most (i + 1) (min (min (so_far * 16) most + d) most)
one_hex_digit bytes most i so_far d lt h small is =
    let test : nat_lt (digit_value (get_or bytes i 0)) 16 ≡ true = grind (arith, nat_tests) in
    let more : take (i + 1) bytes ≡ take i bytes ++ get_or bytes i 0 ∷ [] = take_more bytes i 0 lt in
    let value : digits_value 16 (take (i + 1) bytes) ≡ digits_value 16 (take i bytes) * 16
    + digit_value (get_or bytes i 0) = rw more (value_after-push 16 0 (take i bytes) (get_or bytes i 0)) in
    let old : so_far ≡ min most (digits_value 16 (take i bytes)) = h.value in
    let every : all_digits 16 (take i bytes) ≡ true = h.all in
    record {
      all = rw (more, all_digits-append 16 (take i bytes) (get_or bytes i 0 ∷ []), every, test) refl;
      value = rw value (omega arith);
    }

pub all_from_each : (radix : ℕ) (bytes : List ℕ) → AllDigits radix bytes → all_digits radix bytes ≡ true
all_from_each radix [] h = refl
all_from_each radix (b ∷ bs) h =
    let lt : digit_value b < radix = h.0 in
    let t : nat_lt (digit_value b) radix ≡ true = grind (arith, nat_tests) in
    rw (t, all_from_each radix bs h.1) refl
