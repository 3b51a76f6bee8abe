use Rattle.osm_data.proofs.opl_data.OplDataDataReader.laws.Goals as goal

pub returns-clause-nothing : goal.returns-clause-nothing
returns-clause-nothing c = λ bytes place wrong objects spelled. c.laws_of_data.ensures.apart bytes objects place spelled wrong
