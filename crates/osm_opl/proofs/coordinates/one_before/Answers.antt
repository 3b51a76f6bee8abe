use Rattle.std.proofs.Common.{◌/◌, arith}
use Rattle.osm_opl.proofs.FractionLemmas.{strip_begun, strip_done, strip_more, strip_two}
use Rattle.osm_opl.proofs.coordinates.one_before.Goals as goal

pub loop-number-init : goal.loop-number-init
loop-number-init c = (strip_begun c.args.part c.requires.0 c.requires.1, omega arith)

pub loop-number-preserved : goal.loop-number-preserved
loop-number-preserved c =
    (strip_two c.args.part c.loop-number.number c.loop-number.invariant.0 (omega arith), omega arith)

pub returns-then-number-eq0-clause-digits : goal.returns-then-number-eq0-clause-digits
returns-then-number-eq0-clause-digits c =
    let number = c.loop-number.number in
    strip_done c.args.part (number / 10) (strip_more c.args.part number c.loop-number.invariant.0 (omega arith)) (omega arith)

pub returns-else-number-eq0-clause-digits : goal.returns-else-number-eq0-clause-digits
returns-else-number-eq0-clause-digits c =
    strip_done c.args.part c.loop-number.number c.loop-number.invariant.0 (omega arith)
