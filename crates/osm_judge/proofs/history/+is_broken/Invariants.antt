use Rattle.std.proofs.Common.{length}
use Rattle.osm_judge.proofs.history.+is_broken.Given as goal

abbrev pub decreases-is_broken : goal.decreases-is_broken
decreases-is_broken l = length l.history.now
