use Rattle.std.proofs.Common.{◌≡◌, ◌-◌, ◌<◌, ◌≤◌, length, take, get_or, arith, rules, sym}
use Rattle.std.proofs.lemmas.List.{length-take-le, take_all}
use Rattle.std.proofs.lemmas.Bool.Decides.{nat_tests}
use Rattle.std.proofs.lemmas.Int.Digits.{digits_more, digits_value_more}
use Rattle.std.specs.Char.{digit_value}
use Rattle.std.specs.Str.Parse.{AllDigits, digits_value}
use Rattle.osm_opl.proofs.NumberLemmas.{digits_again, digits_many, digits_none, no_decimal, all_from_each}
use Rattle.osm_reading.proofs.SequenceLemmas.{digit_is}
use Rattle.osm_save.proofs.NumberLemmas.{seventeen_digits}
use Rattle.osm_save.proofs.numbers.read_digits.Goals as goal
use Rattle.osm_save.proofs.numbers.read_digits.Goals.{then-is_empty-via-then-is_empty, then-is_empty-via-else-is_empty+then-digits-gt-MOST_DIGITS}

pub returns-then-is_empty : goal.returns-then-is_empty
returns-then-is_empty c =
    elim c.then-is_empty.branch [
      | then-is_empty-via-then-is_empty w ↦ sym (digits_none 10 18 c.args.digits.now (search rules))
      | then-is_empty-via-else-is_empty+then-digits-gt-MOST_DIGITS w ↦ sym (digits_many 10 18 c.args.digits.now (omega arith))
    ]

pub returns-then-not-is_ascii_digit : goal.returns-then-not-is_ascii_digit
returns-then-not-is_ascii_digit c = sym (no_decimal 18 c.args.digits.now c.loop-byte.byte-index (omega arith) (search rules))

-- seventeen digits and one more fit into 64 bits
pub overflow_mul-number : goal.overflow_mul-number
overflow_mul-number c =
    let short : length (take c.loop-byte.byte-index c.args.digits.now) ≤ 17 =
    omega (arith, length-take-le c.loop-byte.byte-index c.args.digits.now (omega arith)) in
    let small = seventeen_digits (take c.loop-byte.byte-index c.args.digits.now) c.loop-byte.invariant.digits short in
    omega (arith, small, c.loop-byte.invariant.value)

pub overflow_add-number : goal.overflow_add-number
overflow_add-number c =
    let short : length (take c.loop-byte.byte-index c.args.digits.now) ≤ 17 =
    omega (arith, length-take-le c.loop-byte.byte-index c.args.digits.now (omega arith)) in
    let small = seventeen_digits (take c.loop-byte.byte-index c.args.digits.now) c.loop-byte.invariant.digits short in
    omega (arith, small, c.loop-byte.invariant.value, c.type_inv.digits c.loop-byte.byte-index)

pub loop-byte-preserved : goal.loop-byte-preserved
loop-byte-preserved c =
    let low : 48 ≤ get_or c.args.digits.now c.loop-byte.byte-index 0 = grind (arith, nat_tests) in
    let high : get_or c.args.digits.now c.loop-byte.byte-index 0 ≤ 57 = grind (arith, nat_tests) in
    let digit : digit_value (get_or c.args.digits.now c.loop-byte.byte-index 0) ≡
    get_or c.args.digits.now c.loop-byte.byte-index 0 - 48 =
    digit_is (get_or c.args.digits.now c.loop-byte.byte-index 0) low high in
    let small : digit_value (get_or c.args.digits.now c.loop-byte.byte-index 0) < 10 = omega arith in
    record {
      digits = digits_more 10 c.args.digits.now c.loop-byte.byte-index c.loop-byte-test.true c.loop-byte.invariant.digits small;
      value = omega (arith, digits_value_more 10 c.args.digits.now c.loop-byte.byte-index c.loop-byte-test.true, c.loop-byte.invariant.value);
    }

pub returns : goal.returns
returns c =
    let i : c.loop-byte.byte-index ≡ length c.args.digits.now = omega arith in
    let whole : take c.loop-byte.byte-index c.args.digits.now ≡ c.args.digits.now = take_all c.loop-byte.byte-index c.args.digits.now (omega arith) in
    let all : AllDigits 10 c.args.digits.now = rw whole at c.loop-byte.invariant.digits in
    let value : c.loop-byte.number ≡ digits_value 10 c.args.digits.now = rw whole at c.loop-byte.invariant.value in
    let some : 1 ≤ length c.args.digits.now = grind (arith, nat_tests) in
    sym (digits_again 10 18 c.args.digits.now c.loop-byte.number (record {
      all = all_from_each 10 c.args.digits.now all;
      some = some;
      short = omega arith;
      value = value;
    }))
