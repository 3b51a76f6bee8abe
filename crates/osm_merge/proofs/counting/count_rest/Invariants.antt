use Rattle.std.proofs.Common.{length}
use Rattle.osm_merge.proofs.CountingLemmas.{CountsSome}
use Rattle.osm_merge.proofs.counting.count_rest.Given as goal

abbrev pub invariant-loop-key : goal.invariant-loop-key
invariant-loop-key l = CountsSome l.fn.entries l.rest l.many

abbrev pub decreases-loop-key : goal.decreases-loop-key
decreases-loop-key l = length l.rest
