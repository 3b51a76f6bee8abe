use Rattle.osm_asking.proofs.JsonLemmas.{DecimalsWritten}
use Rattle.osm_asking.proofs.json.write_decimals.Given as goal

abbrev pub invariant-loop-left : goal.invariant-loop-left
invariant-loop-left l = DecimalsWritten l.initial.out.items l.out.items l.part l.left l.places

abbrev pub decreases-loop-left : goal.decreases-loop-left
decreases-loop-left l = l.places
