use Rattle.std.proofs.Common.{length}
use Rattle.osm_judge.proofs.views.+are_users_listed.Given as goal

abbrev pub decreases-are_users_listed : goal.decreases-are_users_listed
decreases-are_users_listed l = length l.list.now
