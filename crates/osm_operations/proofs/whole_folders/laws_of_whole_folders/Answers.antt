use Rattle.osm_operations.proofs.WholeFolderLemmas.{whole_is_followed, whole_is_folder, whole_is_published_in, whole_is_reached, whole_is_readable}
use Rattle.osm_operations.proofs.whole_folders.laws_of_whole_folders.Goals as goal

pub returns-clause-readable : goal.returns-clause-readable
returns-clause-readable c = whole_is_readable

pub returns-clause-followed : goal.returns-clause-followed
returns-clause-followed c = whole_is_followed c.laws_of_state.ensures.no_fault_beside_state

pub returns-clause-reached : goal.returns-clause-reached
returns-clause-reached c = whole_is_reached c.laws_of_state.ensures.no_fault_beside_state

pub returns-clause-published_in : goal.returns-clause-published_in
returns-clause-published_in c = whole_is_published_in c.laws_of_state.ensures.no_fault_beside_state

pub returns-clause-is_folder : goal.returns-clause-is_folder
returns-clause-is_folder c = whole_is_folder
