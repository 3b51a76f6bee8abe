-- Up to eighteen digits, and the one text of a number.
use Rattle.std.proofs.Common.{◌≡◌, ℕ, zero, ◌<◌, ◌≤◌, ◌^◌, List, length, arith, lit<, refl, sym, Some, None, true, subst}
use Rattle.std.specs.Prelude.{decimal, if◌then◌else◌}
use Rattle.std.specs.Char.{digit_value}
use Rattle.std.specs.Str.{bytes_eq}
use Rattle.std.proofs.lemmas.Bool.Decides.{nat_tests}
use Rattle.std.proofs.lemmas.Fmt.{decimal_is_IsNumeral, length-decimal-le}
use Rattle.std.proofs.lemmas.Option.{same_Some}
use Rattle.std.proofs.lemmas.Slice.Eq.{bytes_eq-Decides}
use Rattle.osm_opl.specs.Reading.{digits_at}
use Rattle.osm_opl.proofs.NumberLemmas.{all_from_each, digits_again, digits_take, few_digits}
use Rattle.osm_opl.proofs.NumberLaws.{digits_lack}
use Rattle.osm_reading.proofs.StepLemmas.{guard_some, some_then}
use Rattle.osm_reading.specs.Pieces.{Lacks}
use Rattle.osm_save.specs.Reading.{number_at}
use Rattle.std.proofs.Math.Nat.{pow-le-pow_right}
use Rattle.std.proofs.lemmas.Int.Digits.{digits_value-lt}
use Rattle.std.specs.Str.Parse.{AllDigits, digits_value}

pub seventeen_digits : (ds : List ℕ) → AllDigits 10 ds → length ds ≤ 17 → digits_value 10 ds < 100000000000000000
seventeen_digits ds d h =
    let small : digits_value 10 ds < 10 ^ length ds = digits_value-lt 10 ds d in
    let ten : zero < 10 = lit< tt in
    let most : 10 ^ length ds ≤ 10 ^ 17 = pow-le-pow_right ten h in
    omega arith

-- ---- the one text of a number

pub record TakesNumber (bytes : List ℕ) (n : ℕ) : Type 0 where
  pub text : bytes ≡ decimal n
  pub small : n < 1000000000000000000

pub number_takes : (bytes : List ℕ) (n : ℕ) → number_at bytes ≡ Some n → TakesNumber bytes n
unfolding number_at
number_takes bytes n e =
    let r = some_then (digits_at 10 18 bytes) (λ (m : ℕ). if bytes_eq (decimal m) bytes then Some m else None) n e in
    let g = guard_some (bytes_eq (decimal r.0) bytes) (Some r.0) n r.2 in
    let t = digits_take 10 18 bytes r.0 r.1 in
    let few : digits_value 10 bytes < 10 ^ 18 = few_digits 18 bytes t.short t.all in
    subst (λ (m : ℕ). TakesNumber bytes m) (same_Some r.0 n g.1) (record {
      text = sym ((bytes_eq-Decides (decimal r.0) bytes).0 g.0);
      small = omega (arith, few, t.value);
    })

short_decimal : (n : ℕ) → n < 1000000000000000000 → length (decimal n) ≤ 18
short_decimal n small = length-decimal-le 18 n (omega arith) small (omega arith)

pub number_again : (n : ℕ) → n < 1000000000000000000 → number_at (decimal n) ≡ Some n
unfolding number_at
number_again n small =
    let numeral = decimal_is_IsNumeral n (omega arith) in
    let some : 1 ≤ length (decimal n) = omega (arith, numeral.0.0) in
    let read : digits_at 10 18 (decimal n) ≡ Some n = digits_again 10 18 (decimal n) n (record {
      all = all_from_each 10 (decimal n) numeral.0.1;
      some = some;
      short = short_decimal n small;
      value = sym numeral.1;
    }) in
    let same : bytes_eq (decimal n) (decimal n) ≡ true = (bytes_eq-Decides (decimal n) (decimal n)).1 refl in
    rw (read, same) refl

not_a_digit : (s : ℕ) → s < 48 → 10 ≤ digit_value s
not_a_digit s low =
    let below_9 : (48 ≤ s) → ⊥ = omega arith in
    let below_a : (97 ≤ s) → ⊥ = omega arith in
    let below_A : (65 ≤ s) → ⊥ = omega arith in
    grind (arith, nat_tests)

-- no digit is a space or a line feed
pub decimal_lacks : (s n : ℕ) → s < 48 → n < 1000000000000000000 → Lacks s (decimal n)
decimal_lacks s n low small =
    let numeral = decimal_is_IsNumeral n (omega arith) in
    digits_lack 10 s (decimal n) (not_a_digit s low) numeral.0.1
