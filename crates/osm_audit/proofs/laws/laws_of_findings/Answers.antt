use Rattle.osm_audit.proofs.FoundLemmas.{are_true, files_found, ranges_found, top_found}
use Rattle.osm_audit.proofs.laws.laws_of_findings.Goals as goal

pub returns-clause-are_true : goal.returns-clause-are_true
returns-clause-are_true c = are_true

pub returns-clause-files_found : goal.returns-clause-files_found
returns-clause-files_found c = files_found c.laws_of_state.ensures.no_fault_beside_state

pub returns-clause-ranges_found : goal.returns-clause-ranges_found
returns-clause-ranges_found c = ranges_found

pub returns-clause-top_found : goal.returns-clause-top_found
returns-clause-top_found c = top_found
