use Rattle.std.proofs.Common.{length}
use Rattle.osm_judge.proofs.views.+are_above_zero.Given as goal

abbrev pub decreases-are_above_zero : goal.decreases-are_above_zero
decreases-are_above_zero l = length l.counts.now
