use Rattle.std.proofs.Common.{length}
use Rattle.osm_judge.proofs.history.+bases.Given as goal

abbrev pub decreases-bases : goal.decreases-bases
decreases-bases l = length l.history.now
