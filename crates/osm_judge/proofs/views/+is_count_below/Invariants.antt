use Rattle.std.proofs.Common.{length}
use Rattle.osm_judge.proofs.views.+is_count_below.Given as goal

abbrev pub decreases-is_count_below : goal.decreases-is_count_below
decreases-is_count_below l = length l.others.now
