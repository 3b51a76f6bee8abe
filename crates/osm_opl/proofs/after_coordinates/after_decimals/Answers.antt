use Rattle.std.proofs.Common.{◌*◌, ◌%◌, ◌<◌, ◌^◌, arith}
use Rattle.std.proofs.lemmas.List.{take_rest}
use Rattle.osm_opl.proofs.BeginCoordinateLemmas.{decimals_begin, decimals_small, not_zero}
use Rattle.osm_opl.proofs.after_coordinates.after_decimals.Goals as goal

pub overflow_mul-result : goal.overflow_mul-result
overflow_mul-result c =
    let small : c.leading_digits-number.result.0 * c.scale.result < 10 ^ 7 =
    decimals_small c.args.bytes.now c.leading_digits-number.result.0 c.leading_digits-number.result.1 c.scale.result
    c.leading_digits-number.ensures.digits c.leading_digits-number.ensures.value (omega arith)
    c.leading_digits-number.ensures.few.1 c.scale.ensures.value in
    omega (arith, small)

pub returns-clause-parts : goal.returns-clause-parts
returns-clause-parts c =
    let last : 0 < c.leading_digits-number.result.0 % 10 =
    not_zero c.args.bytes.now c.leading_digits-number.result.0 c.leading_digits-number.result.1
    c.leading_digits-number.ensures.digits c.leading_digits-number.ensures.value (omega arith)
    c.leading_digits-number.ensures.few.1 (omega arith) in
    rw (take_rest c.args.bytes.now c.leading_digits-number.result.1)
    (decimals_begin c.args.bytes.now c.leading_digits-number.result.0 c.leading_digits-number.result.1 c.scale.result
    c.leading_digits-number.ensures.digits c.leading_digits-number.ensures.value (omega arith)
    c.leading_digits-number.ensures.few.1 last c.scale.ensures.value)

pub returns-clause-small : goal.returns-clause-small
returns-clause-small c =
    decimals_small c.args.bytes.now c.leading_digits-number.result.0 c.leading_digits-number.result.1 c.scale.result
    c.leading_digits-number.ensures.digits c.leading_digits-number.ensures.value (omega arith)
    c.leading_digits-number.ensures.few.1 c.scale.ensures.value
