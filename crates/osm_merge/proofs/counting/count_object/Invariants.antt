use Rattle.std.proofs.Common.{length}
use Rattle.osm_merge.specs.Counting.{CountsBelow}
use Rattle.osm_merge.proofs.counting.count_object.Given as goal

abbrev pub invariant-loop-key : goal.invariant-loop-key
invariant-loop-key l = CountsBelow l.fn.entries l.fn.object l.rest l.many

abbrev pub decreases-loop-key : goal.decreases-loop-key
decreases-loop-key l = length l.rest
