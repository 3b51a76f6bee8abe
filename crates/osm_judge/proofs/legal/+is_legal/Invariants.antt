use Rattle.std.proofs.Common.{length}
use Rattle.osm_judge.proofs.legal.+is_legal.Given as goal

abbrev pub decreases-is_legal : goal.decreases-is_legal
decreases-is_legal l = length l.history.now
