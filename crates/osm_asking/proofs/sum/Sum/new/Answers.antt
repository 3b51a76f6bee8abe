use Rattle.std.proofs.Common.{refl}
use Rattle.osm_asking.proofs.SumLemmas.{sum_none}
use Rattle.osm_asking.proofs.sum.Sum.new.Goals as goal

pub returns-clause-sum : goal.returns-clause-sum
returns-clause-sum c = sum_none (record { hasher = c.new.result; count = 0 }) c.new.ensures refl
