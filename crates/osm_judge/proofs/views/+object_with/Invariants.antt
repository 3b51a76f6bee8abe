use Rattle.std.proofs.Common.{length}
use Rattle.osm_judge.proofs.views.+object_with.Given as goal

abbrev pub decreases-object_with : goal.decreases-object_with
decreases-object_with l = length l.objects.now
