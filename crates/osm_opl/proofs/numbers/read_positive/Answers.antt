use Rattle.std.proofs.Common.{arith}
use Rattle.osm_opl.specs.Reading.{positive_at}
use Rattle.osm_opl.proofs.NumberLemmas.{not_positive}
use Rattle.osm_opl.proofs.numbers.read_positive.Goals as goal

-- no digits are no number
pub returns-then-is_empty-clause-value : goal.returns-then-is_empty-clause-value
unfolding positive_at
returns-then-is_empty-clause-value c = grind (arith, not_positive)
