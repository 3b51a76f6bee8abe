use Rattle.std.proofs.Common.{length}
use Rattle.osm_judge.proofs.history.+least_time.Given as goal

abbrev pub decreases-least_time : goal.decreases-least_time
decreases-least_time l = length l.history.now
