use Rattle.std.proofs.Common.{arith}
use Rattle.std.proofs.lemmas.Fmt.{length-decimal-le}
use Rattle.osm_opl.proofs.prepend.prepend_id.Goals as goal

-- a size of 63 bits has at most 19 digits
pub write_digits-digits-requires : goal.write_digits-digits-requires
write_digits-digits-requires c =
    let long = length-decimal-le 19 c.unsigned_abs.result (omega arith) (omega arith) (omega arith) in
    (omega arith, omega arith)

pub returns-then-id-ge0-clause-start : goal.returns-then-id-ge0-clause-start
returns-then-id-ge0-clause-start c =
    let long = length-decimal-le 19 c.unsigned_abs.result (omega arith) (omega arith) (omega arith) in
    (omega arith, omega arith)

pub prepend-requires : goal.prepend-requires
prepend-requires c =
    let long = length-decimal-le 19 c.unsigned_abs.result (omega arith) (omega arith) (omega arith) in
    (omega arith, omega arith)

pub returns-clause-start : goal.returns-clause-start
returns-clause-start c =
    let long = length-decimal-le 19 c.unsigned_abs.result (omega arith) (omega arith) (omega arith) in
    (omega arith, omega arith)
