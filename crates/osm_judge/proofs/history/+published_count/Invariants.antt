use Rattle.std.proofs.Common.{length}
use Rattle.osm_judge.proofs.history.+published_count.Given as goal

abbrev pub decreases-published_count : goal.decreases-published_count
decreases-published_count l = length l.history.now
