use Rattle.std.proofs.Common.{length}
use Rattle.osm_judge.proofs.views.+are_numbers_rising.Given as goal

abbrev pub decreases-are_numbers_rising : goal.decreases-are_numbers_rising
decreases-are_numbers_rising l = length l.numbers.now
