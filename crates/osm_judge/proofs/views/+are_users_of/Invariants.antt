use Rattle.std.proofs.Common.{length}
use Rattle.osm_judge.proofs.views.+are_users_of.Given as goal

abbrev pub decreases-are_users_of : goal.decreases-are_users_of
decreases-are_users_of l = length l.list.now
