use Rattle.std.proofs.Common.{length}
use Rattle.osm_judge.proofs.views.+are_counts_rising.Given as goal

abbrev pub decreases-are_counts_rising : goal.decreases-are_counts_rising
decreases-are_counts_rising l = length l.counts.now
