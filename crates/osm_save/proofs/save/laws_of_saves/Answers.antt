use Rattle.osm_save.proofs.SaveLemmas.{one_save}
use Rattle.osm_save.proofs.save.laws_of_saves.Goals as goal

pub returns-clause-one_save : goal.returns-clause-one_save
returns-clause-one_save c = one_save
