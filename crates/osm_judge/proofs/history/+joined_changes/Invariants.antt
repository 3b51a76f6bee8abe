use Rattle.std.proofs.Common.{length}
use Rattle.osm_judge.proofs.history.+joined_changes.Given as goal

abbrev pub decreases-joined_changes : goal.decreases-joined_changes
decreases-joined_changes l = length l.history.now
