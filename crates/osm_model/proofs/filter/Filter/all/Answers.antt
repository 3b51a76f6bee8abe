use Rattle.osm_model.proofs.FilterLemmas.{no_keys}
use Rattle.osm_model.proofs.filter.Filter.all.Goals as goal

pub invariant_of-result : goal.invariant_of-result
invariant_of-result c = rw c.new.ensures no_keys
