use Rattle.osm_operations.proofs.HandedLemmas.{base_of_export, handed, handed_in_step, hands_all}
use Rattle.osm_operations.proofs.bases.laws_of_bases.Goals as goal

pub returns-clause-handed_on : goal.returns-clause-handed_on
returns-clause-handed_on c = handed c.laws_of_kept.ensures.one_kept

pub returns-clause-is_base : goal.returns-clause-is_base
returns-clause-is_base c = base_of_export

pub returns-clause-same : goal.returns-clause-same
returns-clause-same c = hands_all

pub returns-clause-in_step : goal.returns-clause-in_step
returns-clause-in_step c = handed_in_step
