use Rattle.std.proofs.Common.{length}
use Rattle.osm_judge.proofs.history.+saved_last.Given as goal

abbrev pub decreases-saved_last : goal.decreases-saved_last
decreases-saved_last l = length l.history.now
