use Rattle.std.proofs.Common.{length}
use Rattle.osm_judge.proofs.history.+start.Given as goal

abbrev pub decreases-start : goal.decreases-start
decreases-start l = length l.history.now
