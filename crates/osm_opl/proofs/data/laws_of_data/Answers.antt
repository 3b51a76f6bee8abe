use Rattle.osm_model.specs.Data.{IsData}
use Rattle.osm_opl.proofs.FileLaws.{apart, has_place, one_list, one_place}
use Rattle.osm_model.proofs.FileLimitLemmas.{data_limits, data_settled}
use Rattle.osm_opl.proofs.RoundTrip.{data_spells}
use Rattle.osm_opl.proofs.data.laws_of_data.Goals as goal

pub returns-clause-one_list : goal.returns-clause-one_list
returns-clause-one_list c = one_list IsData

pub returns-clause-apart : goal.returns-clause-apart
returns-clause-apart c = apart IsData data_limits

pub returns-clause-one_place : goal.returns-clause-one_place
returns-clause-one_place c = one_place IsData data_limits

pub returns-clause-has_place : goal.returns-clause-has_place
returns-clause-has_place c = has_place IsData data_limits data_settled

pub returns-clause-written : goal.returns-clause-written
returns-clause-written c = data_spells
