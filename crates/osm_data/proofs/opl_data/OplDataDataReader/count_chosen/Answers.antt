use Rattle.osm_data.proofs.OplCountLemmas.{begun_total}
use Rattle.osm_data.proofs.opl_data.OplDataDataReader.count_chosen.Goals as goal

pub returns-in-Ok-clause-counted : goal.returns-in-Ok-clause-counted
returns-in-Ok-clause-counted g c = λ file objects has spelled.
    c.in-Ok.ensures.counted file _ has (begun_total c.args.filter.now c.new.result file objects c.new.ensures spelled)
