-- A number, an id or a coordinate that is written spells what was written.
use Rattle.std.proofs.Common.{◌≡◌, ℕ, zero, suc, ◌+◌, ◌-◌, ◌*◌, ◌/◌, ◌%◌, ◌^◌, ◌<◌, ◌≤◌, true, false, List, [], ◌∷◌}
use Rattle.std.proofs.Common.{◌++◌, length, sym, ap, subst, ◌∙◌, arith, inl, inr, lit<}
use Rattle.std.specs.Prelude.{◌==◌, ℤ, pos, negsuc, neg_ℤ, ◌≤ℤ◌, decimal, int_lt}
use Rattle.std.specs.Char.{digit_value}
use Rattle.std.specs.Fmt.{signed_decimal}
use Rattle.std.specs.Str.Parse.{AllDigits, digits_value, digits_value_after}
use Rattle.std.proofs.Math.Nat.{pow-suc, one-le-pow, div-lt_iff_lt-mul, mod-lt}
use Rattle.std.proofs.lemmas.Bool.{cases_lt}
use Rattle.std.proofs.lemmas.Bool.Decides.{nat_tests}
use Rattle.std.proofs.lemmas.Fmt.{decimal_is_IsNumeral, length-decimal-le}
use Rattle.std.proofs.lemmas.Int.{ints}
use Rattle.std.proofs.lemmas.List.{append-nil}
use Rattle.std.proofs.lemmas.Nat.{pow-add}
use Rattle.osm_model.specs.Limits.{IsId, IsPositive}
use Rattle.osm_opl.specs.Coordinate.{SpellsUnits, whole, point, SpellsCoordinate}
use Rattle.osm_opl.specs.Number.{SpellsNumber, SpellsId, plain, minus}
use Rattle.osm_opl.specs.Written.{coordinate_text, decimals, fraction_text}

-- ---- numbers

-- digits after a number
value_after : (n : ℕ) (ds : List ℕ) → digits_value_after 10 n ds ≡ n * 10 ^ length ds + digits_value 10 ds
value_after n [] = omega arith
value_after n (d ∷ ds) =
    let a : digits_value_after 10 (n * 10 + digit_value d) ds ≡ (n * 10 + digit_value d) * 10 ^ length ds
    + digits_value 10 ds = value_after (n * 10 + digit_value d) ds in
    let b : digits_value_after 10 (0 * 10 + digit_value d) ds ≡ (0 * 10 + digit_value d) * 10 ^ length ds
    + digits_value 10 ds = value_after (0 * 10 + digit_value d) ds in
    let p : 10 ^ suc (length ds) ≡ 10 ^ length ds * 10 = pow-suc 10 (length ds) in
    let q : n * 10 ^ suc (length ds) ≡ n * (10 ^ length ds * 10) = ap (λ (x : ℕ). n * x) p in
    omega (arith, a, b, q)

number_spells : (n : ℕ) → n < 2 ^ 64 → SpellsNumber (decimal n) n
number_spells n h =
    let d = decimal_is_IsNumeral n h in
    record { numeral = d.0; short = length-decimal-le 20 n (lit< tt) (omega arith) h; value = sym d.1 }

pub positive_spells : (n : ℕ) → IsPositive n → SpellsNumber (decimal n) n
positive_spells n h = let high : n < 2 ^ 32 = h.high in number_spells n (omega arith)

pub id_spells : (id : ℤ) → IsId id → SpellsId (signed_decimal id) id
id_spells (pos n) h = plain (decimal n) n (number_spells n (omega (arith, ints, h.high)))
id_spells (negsuc n) h = minus (decimal (suc n)) (suc n) (number_spells (suc n) (omega (arith, ints, h.low)))

-- ---- coordinates

record IsDecimals (k n : ℕ) (ds : List ℕ) : Type 0 where
  each : AllDigits 10 ds
  short : length ds ≤ k
  value : digits_value 10 ds * 10 ^ (k - length ds) ≡ n

decimal_digit : (q : ℕ) → q < 10 → digit_value (48 + q) ≡ q
decimal_digit q h = grind (arith, nat_tests)

scaled : (q a v b k r n : ℕ) → a * b ≡ k → v * b ≡ r → q * k + r ≡ n → (q * a + v) * b ≡ n
scaled q a v b k r n ab vb qk =
    let m : q * (a * b) ≡ q * k = ap (λ (x : ℕ). q * x) ab in
    omega (arith, m)

one_more : (k n : ℕ) (ds : List ℕ) → 0 < 10 ^ k → n / 10 ^ k < 10 → digit_value (48 + n / 10 ^ k) ≡ n / 10 ^ k
    → IsDecimals k (n % 10 ^ k) ds → IsDecimals (suc k) n ((48 + n / 10 ^ k) ∷ ds)
one_more k n ds above q d inner =
    let short : length ds ≤ k = inner.short in
    let v : digits_value 10 ds * 10 ^ (k - length ds) ≡ n % 10 ^ k = inner.value in
    let a : digits_value_after 10 (0 * 10 + digit_value (48 + n / 10 ^ k)) ds ≡ (0 * 10 + digit_value (48 + n / 10 ^ k))
    * 10 ^ length ds + digits_value 10 ds = value_after (0 * 10 + digit_value (48 + n / 10 ^ k)) ds in
    let first : 0 * 10 + digit_value (48 + n / 10 ^ k) ≡ n / 10 ^ k = omega (arith, d) in
    let is : digits_value 10 ((48 + n / 10 ^ k) ∷ ds) ≡ n / 10 ^ k * 10 ^ length ds + digits_value 10 ds =
    a ∙ ap (λ (x : ℕ). x * 10 ^ length ds + digits_value 10 ds) first in
    let less : suc k - suc (length ds) ≡ k - length ds = omega arith in
    let both : length ds + (k - length ds) ≡ k = omega arith in
    let power : 10 ^ length ds * 10 ^ (k - length ds) ≡ 10 ^ k = sym (pow-add 10 (length ds) (k - length ds)) ∙ ap (λ (x : ℕ). 10 ^ x) both in
    let back : n / 10 ^ k * 10 ^ k + n % 10 ^ k ≡ n = omega arith in
    record {
      each = (omega (arith, d), inner.each);
      short = omega arith;
      value = ap (λ (x : ℕ). x * 10 ^ (suc k - suc (length ds))) is
          ∙ ap (λ (x : ℕ). (n / 10 ^ k * 10 ^ length ds + digits_value 10 ds) * 10 ^ x) less
          ∙ scaled (n / 10 ^ k) (10 ^ length ds) (digits_value 10 ds) (10 ^ (k - length ds)) (10 ^ k)
          (n % 10 ^ k) n power v back;
    }

decimals_are : (k n : ℕ) → n < 10 ^ k → IsDecimals k n (decimals k n)
unfolding decimals
decimals_are zero n h = record { each = tt; short = omega arith; value = let z : n < 1 = h in omega arith }
decimals_are (suc k) n h =
    elim (cases_lt 0 n) [
      | inr nothing ↦ let t : (n == 0) ≡ true = grind (arith, nat_tests) in rw t (record { each = tt; short = omega arith; value = omega arith })
      | inl some ↦
          let t : (n == 0) ≡ false = grind (arith, nat_tests) in
          let above : 0 < 10 ^ k = let o : 1 ≤ 10 ^ k = one-le-pow k 10 (lit< tt) in omega arith in
          let p : 10 ^ suc k ≡ 10 ^ k * 10 = pow-suc 10 k in
          let lt : n < 10 * 10 ^ k = omega arith in
          let q : n / 10 ^ k < 10 = (div-lt_iff_lt-mul {k = 10 ^ k} {x = n} {y = 10} above).1 lt in
          let d : digit_value (48 + n / 10 ^ k) ≡ n / 10 ^ k = decimal_digit (n / 10 ^ k) q in
          let inner : IsDecimals k (n % 10 ^ k) (decimals k (n % 10 ^ k)) = decimals_are k (n % 10 ^ k) (mod-lt n {m = 10 ^ k} above) in
          rw t (one_more k n (decimals k (n % 10 ^ k)) above q d inner)
    ]

decimals_some : (n : ℕ) → 0 < n → 0 < length (decimals 7 n)
unfolding decimals
decimals_some n h = let t : (n == 0) ≡ false = grind (arith, nat_tests) in rw t (omega arith)

units_of : (bytes : List ℕ) (a b : ℕ) → SpellsUnits bytes a → a ≡ b → SpellsUnits bytes b
units_of bytes a b h e = subst (λ (x : ℕ). SpellsUnits bytes x) e h

units_spell : (m : ℕ) → m ≤ 1800000000 → SpellsUnits (decimal (m / 10 ^ 7) ++ fraction_text (m % 10 ^ 7)) m
units_spell m h =
    let d = decimal_is_IsNumeral (m / 10 ^ 7) (omega arith) in
    let short : length (decimal (m / 10 ^ 7)) ≤ 3 = length-decimal-le 3 (m / 10 ^ 7) (lit< tt) (omega arith) (omega arith) in
    let value : digits_value 10 (decimal (m / 10 ^ 7)) ≡ m / 10 ^ 7 = d.1 in
    elim (cases_lt 0 (m % 10 ^ 7)) [
      | inr nothing ↦
          let t : (m % 10 ^ 7 == 0) ≡ true = grind (arith, nat_tests) in
          rw (t, append-nil (decimal (m / 10 ^ 7)))
          (units_of (decimal (m / 10 ^ 7)) (digits_value 10 (decimal (m / 10 ^ 7)) * 10 ^ 7) m
          (whole (decimal (m / 10 ^ 7)) d.0 short) (omega (arith, value)))
      | inl some ↦
          let t : (m % 10 ^ 7 == 0) ≡ false = grind (arith, nat_tests) in
          let f : IsDecimals 7 (m % 10 ^ 7) (decimals 7 (m % 10 ^ 7)) = decimals_are 7 (m % 10 ^ 7) (omega arith) in
          let part : digits_value 10 (decimals 7 (m % 10 ^ 7)) * 10 ^ (7 - length (decimals 7 (m % 10 ^ 7))) ≡ m % 10 ^ 7 = f.value in
          rw t (units_of (decimal (m / 10 ^ 7) ++ 46 ∷ decimals 7 (m % 10 ^ 7))
          (digits_value 10 (decimal (m / 10 ^ 7)) * 10 ^ 7 + digits_value 10 (decimals 7 (m % 10 ^ 7)) * 10 ^
          (7 - length (decimals 7 (m % 10 ^ 7)))) m
          (point (decimal (m / 10 ^ 7)) (decimals 7 (m % 10 ^ 7)) d.0 short (
            decimals_some (m % 10 ^ 7) some,
            f.each,
          ) f.short) (omega (arith, value, part)))
    ]

pub coordinate_spells : (z : ℤ) → neg_ℤ (pos 1800000000) ≤ℤ z → z ≤ℤ pos 1800000000 → SpellsCoordinate (coordinate_text z) z
unfolding coordinate_text
coordinate_spells (pos n) low high =
    let t : int_lt (pos n) (pos 0) ≡ false = grind (arith, nat_tests) in
    rw t (plain (decimal (n / 10 ^ 7) ++ fraction_text (n % 10 ^ 7)) n (units_spell n (omega (arith, ints, high))))
coordinate_spells (negsuc n) low high = minus (decimal (suc n / 10 ^ 7) ++ fraction_text (suc n % 10 ^ 7)) (suc n)
    (units_spell (suc n) (omega (arith, ints, low)))
