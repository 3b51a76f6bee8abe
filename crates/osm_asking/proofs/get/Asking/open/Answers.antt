use Rattle.osm_asking.proofs.PlainLemmas.{unended}
use Rattle.osm_asking.proofs.get.Asking.open.Goals as goal

pub returns-in-Ok-clause-ended : goal.returns-in-Ok-clause-ended
returns-in-Ok-clause-ended g c = unended
