use Rattle.std.proofs.Common.{length}
use Rattle.osm_judge.proofs.history.+time_of_sequence.Given as goal

abbrev pub decreases-time_of_sequence : goal.decreases-time_of_sequence
decreases-time_of_sequence l = length l.history.now
