use Rattle.std.proofs.Common.{length}
use Rattle.osm_judge.proofs.views.+is_key_below.Given as goal

abbrev pub decreases-is_key_below : goal.decreases-is_key_below
decreases-is_key_below l = length l.others.now
