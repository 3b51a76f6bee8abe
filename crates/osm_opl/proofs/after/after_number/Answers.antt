use Rattle.std.proofs.Common.{◌≡◌, ◌≤◌, get_or, arith}
use Rattle.std.proofs.lemmas.List.{take_rest}
use Rattle.osm_opl.proofs.BeginLemmas.{digits_written}
use Rattle.osm_opl.proofs.after.after_number.Goals as goal

pub returns : goal.returns
returns c =
    let lead : get_or c.args.bytes.now 0 0 ≡ 48 → c.leading_digits-number.result.1 ≤ 1 = λ zero. omega (arith, c.else-bytes-eq48.either) in
    rw (take_rest c.args.bytes.now c.leading_digits-number.result.1)
    (digits_written c.args.bytes.now c.leading_digits-number.result.0 c.leading_digits-number.result.1
    c.leading_digits-number.ensures.digits c.leading_digits-number.ensures.value (omega arith)
    c.leading_digits-number.ensures.few.0 c.leading_digits-number.ensures.few.1 lead)
