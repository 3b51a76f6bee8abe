-- Up to nine digits, and the greatest sequence number.
use Rattle.std.proofs.Common.{◌≡◌, ℕ, zero, ◌-◌, ◌<◌, ◌≤◌, ◌^◌, List, length, arith, lit<}
use Rattle.std.proofs.Math.Nat.{pow-le-pow_right}
use Rattle.std.proofs.lemmas.Int.Digits.{digits_value-lt}
use Rattle.std.proofs.lemmas.Bool.Decides.{nat_tests}
use Rattle.std.specs.Char.{digit_value}
use Rattle.std.specs.Str.Parse.{AllDigits, digits_value}

pub eight_digits : (ds : List ℕ) → AllDigits 10 ds → length ds ≤ 8 → digits_value 10 ds < 100000000
eight_digits ds d h =
    let small : digits_value 10 ds < 10 ^ length ds = digits_value-lt 10 ds d in
    let ten : zero < 10 = lit< tt in
    let most : 10 ^ length ds ≤ 10 ^ 8 = pow-le-pow_right ten h in
    omega arith

pub nine_digits : (ds : List ℕ) → AllDigits 10 ds → length ds ≤ 9 → digits_value 10 ds < 1000000000
nine_digits ds d h =
    let small : digits_value 10 ds < 10 ^ length ds = digits_value-lt 10 ds d in
    let ten : zero < 10 = lit< tt in
    let most : 10 ^ length ds ≤ 10 ^ 9 = pow-le-pow_right ten h in
    omega arith

pub digit_is : (b : ℕ) → 48 ≤ b → b ≤ 57 → digit_value b ≡ b - 48
digit_is b low high =
    let not_below : (b < 48) → ⊥ = omega arith in
    let below : b < 58 = omega arith in
    grind (arith, nat_tests)
