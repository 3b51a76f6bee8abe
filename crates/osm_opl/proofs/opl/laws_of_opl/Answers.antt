use Rattle.osm_model.specs.Batch.{IsBatch}
use Rattle.osm_opl.proofs.FileLaws.{apart, has_place, one_batch, one_place}
use Rattle.osm_model.proofs.FileLimitLemmas.{batch_limits, batch_settled}
use Rattle.osm_opl.proofs.LineLaws.{one_change}
use Rattle.osm_opl.proofs.RoundTrip.{text_spells}
use Rattle.osm_opl.proofs.opl.laws_of_opl.Goals as goal

pub returns-clause-one_batch : goal.returns-clause-one_batch
returns-clause-one_batch c = one_batch

pub returns-clause-one_change : goal.returns-clause-one_change
returns-clause-one_change c = one_change

pub returns-clause-apart : goal.returns-clause-apart
returns-clause-apart c = apart IsBatch batch_limits

pub returns-clause-one_place : goal.returns-clause-one_place
returns-clause-one_place c = one_place IsBatch batch_limits

pub returns-clause-has_place : goal.returns-clause-has_place
returns-clause-has_place c = has_place IsBatch batch_limits batch_settled

pub returns-clause-written : goal.returns-clause-written
returns-clause-written c = text_spells
