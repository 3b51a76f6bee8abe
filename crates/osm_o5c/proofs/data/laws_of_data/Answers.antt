use Rattle.osm_model.specs.Data.{IsData}
use Rattle.osm_o5c.specs.File.{data_beginning}
use Rattle.osm_model.proofs.FileLimitLemmas.{data_limits, data_settled}
use Rattle.osm_o5c.proofs.FrontLemmas.{one_list, spelled_right}
use Rattle.osm_o5c.proofs.PlaceLemmas.{fault_of, one_place, other_beginnings, spelled_or_wrong}
use Rattle.osm_o5c.proofs.WrittenFile.{data_shortest, data_spells}
use Rattle.osm_o5c.proofs.data.laws_of_data.Goals as goal

pub returns-clause-limits : goal.returns-clause-limits
returns-clause-limits c = spelled_right data_beginning IsData data_limits

pub returns-clause-one_list : goal.returns-clause-one_list
returns-clause-one_list c = one_list data_beginning IsData data_limits

pub returns-clause-apart : goal.returns-clause-apart
returns-clause-apart c = spelled_or_wrong data_beginning IsData data_limits

pub returns-clause-one_place : goal.returns-clause-one_place
returns-clause-one_place c = one_place data_beginning IsData data_limits

pub returns-clause-has_place : goal.returns-clause-has_place
returns-clause-has_place c = fault_of data_beginning IsData data_limits data_settled

pub returns-clause-written : goal.returns-clause-written
returns-clause-written c = λ objects l. (data_spells objects l, data_shortest objects l)

pub returns-clause-no_change_file : goal.returns-clause-no_change_file
returns-clause-no_change_file c = other_beginnings
