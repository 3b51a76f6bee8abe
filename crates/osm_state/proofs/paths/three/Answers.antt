use Rattle.std.proofs.Common.{◌/◌, ◌%◌, arith}
use Rattle.osm_state.proofs.PathLemmas.{hundreds, tens, ones}
use Rattle.osm_state.proofs.paths.three.Goals as goal

pub returns-in_err-digit-clause-only : goal.returns-in_err-digit-clause-only
returns-in_err-digit-clause-only c = λ n h e.
    let some = c.in_err-digit.ensures.only (n / 100) (omega arith) (hundreds c.args.digits n h e) in absurd (cc)

pub returns-in_err-digit-2-clause-only : goal.returns-in_err-digit-2-clause-only
returns-in_err-digit-2-clause-only c = λ n h e.
    let some = c.in_err-digit-2.ensures.only (n / 10 % 10) (omega arith) (tens c.args.digits n e) in absurd (cc)

pub returns-in_err-digit-3-clause-only : goal.returns-in_err-digit-3-clause-only
returns-in_err-digit-3-clause-only c = λ n h e.
    let some = c.in_err-digit-3.ensures.only (n % 10) (omega arith) (ones c.args.digits n e) in absurd (cc)
