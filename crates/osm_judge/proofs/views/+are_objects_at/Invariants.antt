use Rattle.std.proofs.Common.{length}
use Rattle.osm_judge.proofs.views.+are_objects_at.Given as goal

abbrev pub decreases-are_objects_at : goal.decreases-are_objects_at
decreases-are_objects_at l = length l.list.now
