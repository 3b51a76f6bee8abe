use Rattle.osm_model.proofs.DataLemmas.{no_objects}
use Rattle.osm_model.proofs.data.first_fault.Goals as goal

pub loop-index-init : goal.loop-index-init
loop-index-init c = no_objects
