use Rattle.osm_o5c.proofs.FrontLemmas.{one_batch}
use Rattle.osm_o5c.proofs.WrittenFile.{text_spells}
use Rattle.osm_o5c.proofs.o5c.O5cChangeForm.laws.Goals as goal

pub returns-clause-text_spells : goal.returns-clause-text_spells
returns-clause-text_spells c = text_spells

pub returns-clause-one_batch : goal.returns-clause-one_batch
returns-clause-one_batch c = one_batch
