use Rattle.std.proofs.Common.{length}
use Rattle.osm_judge.proofs.history.+most_accepted.Given as goal

abbrev pub decreases-most_accepted : goal.decreases-most_accepted
decreases-most_accepted l = length l.history.now
