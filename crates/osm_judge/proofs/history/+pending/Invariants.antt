use Rattle.std.proofs.Common.{length}
use Rattle.osm_judge.proofs.history.+pending.Given as goal

abbrev pub decreases-pending : goal.decreases-pending
decreases-pending l = length l.history.now
