use Rattle.std.proofs.Common.{length}
use Rattle.osm_judge.proofs.views.+are_accepted.Given as goal

abbrev pub decreases-are_accepted : goal.decreases-are_accepted
decreases-are_accepted l = length l.held.now
