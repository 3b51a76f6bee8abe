use Rattle.std.proofs.Common.{length}
use Rattle.osm_judge.proofs.history.+is_accepted.Given as goal

abbrev pub decreases-is_accepted : goal.decreases-is_accepted
decreases-is_accepted l = length l.history.now
