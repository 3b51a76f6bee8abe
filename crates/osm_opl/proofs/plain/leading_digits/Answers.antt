use Rattle.std.proofs.Common.{◌≡◌, ◌<◌, ◌≤◌, get_or, arith, rules, true}
use Rattle.std.specs.Char.{is_ascii_digit}
use Rattle.std.proofs.lemmas.Bool.Decides.{nat_tests}
use Rattle.osm_opl.proofs.NumberLemmas.{no_digits_yet, one_digit_fits, room_for_digit}
use Rattle.osm_opl.proofs.PlainLemmas.{exact_number}
use Rattle.osm_opl.proofs.plain.leading_digits.Goals as goal

pub loop-count-init : goal.loop-count-init
loop-count-init c = record { digits = no_digits_yet 10 18446744073709551615 c.args.bytes.now; few = omega arith }

-- eighteen digits and one more fit
pub overflow_mul-number : goal.overflow_mul-number
overflow_mul-number c =
    let room : c.loop-count.number < 1000000000000000000 =
    room_for_digit c.args.bytes.now c.loop-count.count c.loop-count.number
    (omega arith) c.loop-count.invariant.digits in
    omega arith

pub overflow_add-number : goal.overflow_add-number
overflow_add-number c =
    let digit : is_ascii_digit (get_or c.args.bytes.now c.loop-count.count 0) ≡ true = search rules in
    let high : get_or c.args.bytes.now c.loop-count.count 0 ≤ 57 = grind (arith, nat_tests) in
    let room : c.loop-count.number < 1000000000000000000 =
    room_for_digit c.args.bytes.now c.loop-count.count c.loop-count.number
    (omega arith) c.loop-count.invariant.digits in
    omega arith

pub loop-count-preserved : goal.loop-count-preserved
loop-count-preserved c =
    let digit : is_ascii_digit (get_or c.args.bytes.now c.loop-count.count 0) ≡ true = search rules in
    record {
      digits = one_digit_fits c.args.bytes.now c.loop-count.count c.loop-count.number (omega arith) (omega arith) c.loop-count.invariant.digits digit;
      few = omega arith;
    }

pub returns-then-not-is_ascii_digit-clause-value : goal.returns-then-not-is_ascii_digit-clause-value
returns-then-not-is_ascii_digit-clause-value c = exact_number c.args.bytes.now c.loop-count.count c.loop-count.number
    (omega arith) c.loop-count.invariant.digits

pub returns-clause-value : goal.returns-clause-value
returns-clause-value c = exact_number c.args.bytes.now c.loop-count.count c.loop-count.number (omega arith) c.loop-count.invariant.digits
