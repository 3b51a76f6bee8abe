use Rattle.std.proofs.Common.{length}
use Rattle.osm_judge.proofs.history.+counted_changes.Given as goal

abbrev pub decreases-counted_changes : goal.decreases-counted_changes
decreases-counted_changes l = length l.history.now
