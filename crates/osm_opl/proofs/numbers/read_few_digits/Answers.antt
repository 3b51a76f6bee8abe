use Rattle.std.proofs.Common.{◌≡◌, ◌<◌, ◌≤◌, length, get_or, arith, rules, true}
use Rattle.std.specs.Char.{is_ascii_digit}
use Rattle.std.proofs.lemmas.Bool.Decides.{nat_tests}
use Rattle.osm_opl.proofs.NumberLemmas.{no_numeral, no_decimal, one_digit_fits, room_for_digit, digits_done}
use Rattle.osm_opl.proofs.numbers.read_few_digits.Goals as goal

pub returns-then-not-is_ascii_digit : goal.returns-then-not-is_ascii_digit
returns-then-not-is_ascii_digit c =
    no_numeral 18446744073709551615 10 (length c.args.bytes.now) c.args.bytes.now
    (no_decimal (length c.args.bytes.now) c.args.bytes.now c.loop-byte.byte-index (omega arith) (search rules))

-- eighteen digits and one more fit
pub overflow_mul-number : goal.overflow_mul-number
overflow_mul-number c =
    let short : length c.args.bytes.now ≤ 19 = c.requires.1 in
    let room : c.loop-byte.number < 1000000000000000000 =
    room_for_digit c.args.bytes.now c.loop-byte.byte-index c.loop-byte.number (omega arith) c.loop-byte.invariant in
    omega arith

pub overflow_add-number : goal.overflow_add-number
overflow_add-number c =
    let short : length c.args.bytes.now ≤ 19 = c.requires.1 in
    let digit : is_ascii_digit (get_or c.args.bytes.now c.loop-byte.byte-index 0) ≡ true = search rules in
    let high : get_or c.args.bytes.now c.loop-byte.byte-index 0 ≤ 57 = grind (arith, nat_tests) in
    let room : c.loop-byte.number < 1000000000000000000 =
    room_for_digit c.args.bytes.now c.loop-byte.byte-index c.loop-byte.number (omega arith) c.loop-byte.invariant in
    omega arith

pub loop-byte-preserved : goal.loop-byte-preserved
loop-byte-preserved c =
    let short : length c.args.bytes.now ≤ 19 = c.requires.1 in
    let digit : is_ascii_digit (get_or c.args.bytes.now c.loop-byte.byte-index 0) ≡ true = search rules in
    one_digit_fits c.args.bytes.now c.loop-byte.byte-index c.loop-byte.number (omega arith) (omega arith) c.loop-byte.invariant digit

pub returns : goal.returns
returns c =
    digits_done 10 (length c.args.bytes.now) c.args.bytes.now 18446744073709551615 c.loop-byte.number
    c.loop-byte.byte-index (omega arith) c.requires.0 (omega arith) c.loop-byte.invariant
