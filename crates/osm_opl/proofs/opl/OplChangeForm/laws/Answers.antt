use Rattle.osm_opl.proofs.FileLaws.{one_batch}
use Rattle.osm_opl.proofs.RoundTrip.{text_spells}
use Rattle.osm_opl.proofs.opl.OplChangeForm.laws.Goals as goal

pub returns-clause-text_spells : goal.returns-clause-text_spells
returns-clause-text_spells c = text_spells

pub returns-clause-one_batch : goal.returns-clause-one_batch
returns-clause-one_batch c = one_batch
