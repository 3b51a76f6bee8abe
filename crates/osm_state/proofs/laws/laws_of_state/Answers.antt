use Rattle.osm_model.proofs.CivilTimeLemmas.{time_text_shows}
use Rattle.osm_state.proofs.PathLemmas.{one_path}
use Rattle.osm_state.proofs.StateLemmas.{one_state}
use Rattle.osm_state.proofs.WrittenLemmas.{written_is_read}
use Rattle.osm_state.proofs.laws.laws_of_state.Goals as goal

pub returns-clause-written_is_read : goal.returns-clause-written_is_read
returns-clause-written_is_read c = written_is_read

pub returns-clause-counted_time_is_text : goal.returns-clause-counted_time_is_text
returns-clause-counted_time_is_text c = λ t h. record { shows = time_text_shows t h.high; limits = h }

pub returns-clause-one_state : goal.returns-clause-one_state
returns-clause-one_state c = one_state

pub returns-clause-one_path : goal.returns-clause-one_path
returns-clause-one_path c = one_path
