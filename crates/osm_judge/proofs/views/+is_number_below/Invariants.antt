use Rattle.std.proofs.Common.{length}
use Rattle.osm_judge.proofs.views.+is_number_below.Given as goal

abbrev pub decreases-is_number_below : goal.decreases-is_number_below
decreases-is_number_below l = length l.others.now
