use Rattle.std.proofs.Common.{◌≡◌, ◌-◌, ◌<◌, ◌≤◌, length, take, get_or, arith}
use Rattle.std.proofs.lemmas.List.{length-take-le}
use Rattle.std.proofs.lemmas.Bool.Decides.{nat_tests}
use Rattle.std.proofs.lemmas.Int.Digits.{digits_more, digits_value_more}
use Rattle.std.proofs.lemmas.Str.Parse.{digit_at}
use Rattle.std.specs.Int.{IsInRange}
use Rattle.std.specs.Char.{digit_value}
use Rattle.osm_reading.proofs.SequenceLemmas.{eight_digits, nine_digits, digit_is}
use Rattle.osm_reading.proofs.sequence.sequence_read.Goals as goal

-- a byte that isn't a digit occurs in no number
pub returns-then-not-is_ascii_digit-clause-only : goal.returns-then-not-is_ascii_digit-clause-only
returns-then-not-is_ascii_digit-clause-only c = λ n h.
    let digit : IsInRange 48 57 (get_or c.args.digits.now c.loop-byte.byte-index 0) =
    digit_at c.args.digits.now c.loop-byte.byte-index h.numeral.1 c.loop-byte-test.true in
    absurd (grind (arith, nat_tests))

pub returns-clause-limit : goal.returns-clause-limit
returns-clause-limit c =
    let short : length (take c.loop-byte.byte-index c.args.digits.now) ≤ 9 =
    omega (arith, length-take-le c.loop-byte.byte-index c.args.digits.now c.loop-byte.auto.byte-index-end) in
    let small = nine_digits (take c.loop-byte.byte-index c.args.digits.now) c.loop-byte.invariant.digits short in
    omega (arith, small, c.loop-byte.invariant.value)

-- eight digits and one more fit
pub overflow_mul-number : goal.overflow_mul-number
overflow_mul-number c =
    let i = c.loop-byte.byte-index in
    let short : length (take c.loop-byte.byte-index c.args.digits.now) ≤ 8 =
    omega (arith, length-take-le c.loop-byte.byte-index c.args.digits.now (omega arith)) in
    let small = eight_digits (take c.loop-byte.byte-index c.args.digits.now) c.loop-byte.invariant.digits short in
    omega (arith, small, c.loop-byte.invariant.value)

pub overflow_add-number : goal.overflow_add-number
overflow_add-number c =
    let short : length (take c.loop-byte.byte-index c.args.digits.now) ≤ 8 =
    omega (arith, length-take-le c.loop-byte.byte-index c.args.digits.now (omega arith)) in
    let small = eight_digits (take c.loop-byte.byte-index c.args.digits.now) c.loop-byte.invariant.digits short in
    omega (arith, small, c.loop-byte.invariant.value, c.type_inv.digits c.loop-byte.byte-index)

pub loop-byte-preserved : goal.loop-byte-preserved
loop-byte-preserved c =
    let low : 48 ≤ get_or c.args.digits.now c.loop-byte.byte-index 0 = grind (arith, nat_tests) in
    let high : get_or c.args.digits.now c.loop-byte.byte-index 0 ≤ 57 = grind (arith, nat_tests) in
    let digit : digit_value (get_or c.args.digits.now c.loop-byte.byte-index 0) ≡
    get_or c.args.digits.now c.loop-byte.byte-index 0 - 48 =
    digit_is (get_or c.args.digits.now c.loop-byte.byte-index 0) low high in
    let small : digit_value (get_or c.args.digits.now c.loop-byte.byte-index 0) < 10 = omega arith in
    record {
      digits = digits_more 10 c.args.digits.now c.loop-byte.byte-index c.loop-byte-test.true c.loop-byte.invariant.digits small;
      value = omega (arith, digits_value_more 10 c.args.digits.now c.loop-byte.byte-index c.loop-byte-test.true, c.loop-byte.invariant.value);
    }
