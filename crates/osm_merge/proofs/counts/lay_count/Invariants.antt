use Rattle.std.proofs.Common.{length}
use Rattle.osm_merge.proofs.CountLemmas.{AddsBelow}
use Rattle.osm_merge.proofs.counts.lay_count.Given as goal

abbrev pub invariant-loop-number : goal.invariant-loop-number
invariant-loop-number l = AddsBelow l.fn.increments l.fn.count l.rest l.many l.fn.out.items l.out.items

abbrev pub decreases-loop-number : goal.decreases-loop-number
decreases-loop-number l = length l.rest
