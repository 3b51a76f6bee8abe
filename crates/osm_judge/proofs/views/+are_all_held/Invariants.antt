use Rattle.std.proofs.Common.{length}
use Rattle.osm_judge.proofs.views.+are_all_held.Given as goal

abbrev pub decreases-are_all_held : goal.decreases-are_all_held
decreases-are_all_held l = length l.history.now
