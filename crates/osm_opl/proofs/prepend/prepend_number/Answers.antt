use Rattle.std.proofs.Common.{arith}
use Rattle.std.proofs.lemmas.Fmt.{length-decimal-le}
use Rattle.osm_opl.proofs.prepend.prepend_number.Goals as goal

-- a number of 32 bits has at most 10 digits
pub write_digits-digits-requires : goal.write_digits-digits-requires
write_digits-digits-requires c =
    let long = length-decimal-le 10 c.args.number (omega arith) (omega arith) (omega arith) in
    (omega arith, omega arith)

pub prepend-requires : goal.prepend-requires
prepend-requires c =
    let long = length-decimal-le 10 c.args.number (omega arith) (omega arith) (omega arith) in
    (omega arith, omega arith)

pub returns-clause-start : goal.returns-clause-start
returns-clause-start c =
    let long = length-decimal-le 10 c.args.number (omega arith) (omega arith) (omega arith) in
    (omega arith, omega arith)
