use Rattle.osm_model.specs.Data.{IsData}
use Rattle.osm_o5c.specs.File.{data_beginning}
use Rattle.osm_model.proofs.FileLimitLemmas.{data_limits}
use Rattle.osm_o5c.proofs.FrontLemmas.{one_list, spelled_right}
use Rattle.osm_o5c.proofs.PlaceLemmas.{spelled_or_wrong}
use Rattle.osm_data.proofs.o5m_data.O5mDataDataReader.laws.Goals as goal

pub returns-clause-data : goal.returns-clause-data
returns-clause-data c = spelled_right data_beginning IsData data_limits

pub returns-clause-one_list : goal.returns-clause-one_list
returns-clause-one_list c = one_list data_beginning IsData data_limits

pub returns-clause-nothing : goal.returns-clause-nothing
returns-clause-nothing c = λ bytes place wrong objects spelled. spelled_or_wrong data_beginning IsData data_limits bytes objects place spelled wrong
