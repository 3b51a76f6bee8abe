use Rattle.std.proofs.Common.{length}
use Rattle.osm_data.proofs.O5mCountLemmas.{Passing}
use Rattle.osm_data.proofs.o5m_counting.O5mCounter.pass_datasets.Given as goal

abbrev pub invariant-datasets : goal.invariant-datasets
invariant-datasets l = Passing l.filter l.fn.self l.self l.bytes l.rest

abbrev pub decreases-datasets : goal.decreases-datasets
decreases-datasets l = length l.rest
