use Rattle.std.proofs.Common.{length}
use Rattle.osm_net.specs.Laid.{added}
use Rattle.osm_save.specs.Save.{count_text}
use Rattle.osm_merge.proofs.LayLemmas.{LaysSome}
use Rattle.osm_merge.proofs.counts.lay_rest.Given as goal

abbrev pub invariant-loop-number : goal.invariant-loop-number
invariant-loop-number l = LaysSome added count_text l.fn.increments l.rest l.many l.fn.out.items l.out.items

abbrev pub decreases-loop-number : goal.decreases-loop-number
decreases-loop-number l = length l.rest
