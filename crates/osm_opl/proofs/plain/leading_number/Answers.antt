use Rattle.std.proofs.Common.{◌+◌, arith}
use Rattle.std.proofs.lemmas.List.{take_rest}
use Rattle.osm_opl.proofs.PlainLemmas.{number_then, number_whole}
use Rattle.osm_opl.proofs.plain.leading_number.Goals as goal

pub returns-then-count-bytes-clause-value : goal.returns-then-count-bytes-clause-value
returns-then-count-bytes-clause-value c =
    number_whole c.args.separator c.args.bytes.now c.leading_digits-number.result.0 c.leading_digits-number.result.1
    c.requires c.leading_digits-number.ensures.digits c.leading_digits-number.ensures.value
    (omega arith) c.leading_digits-number.ensures.few.0 (omega arith)

pub returns-clause-value : goal.returns-clause-value
returns-clause-value c =
    rw (take_rest c.args.bytes.now (c.leading_digits-number.result.1 + 1))
    (number_then c.args.separator c.args.bytes.now c.leading_digits-number.result.0 c.leading_digits-number.result.1
    c.requires c.leading_digits-number.ensures.digits c.leading_digits-number.ensures.value
    (omega arith) c.leading_digits-number.ensures.few.0 (omega arith) (omega arith))
