use Rattle.std.proofs.Common.{◌-◌}
use Rattle.osm_model.specs.Limits.{max_sequence}
use Rattle.osm_follow.proofs.DrainLemmas.{IsDrained}
use Rattle.osm_follow.proofs.drain.drain.Given as goal

abbrev pub invariant-loop-held : goal.invariant-loop-held
invariant-loop-held l = IsDrained l.filter l.fn.mirror l.fn.holding l.fn.first l.mirror l.holding l.time

abbrev pub decreases-loop-held : goal.decreases-loop-held
decreases-loop-held l = max_sequence - l.holding.reached
