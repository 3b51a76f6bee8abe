use Rattle.std.proofs.Common.{length}
use Rattle.osm_judge.proofs.breaks.+are_breaks_needed.Given as goal

abbrev pub decreases-are_breaks_needed : goal.decreases-are_breaks_needed
decreases-are_breaks_needed l = length l.history.now
