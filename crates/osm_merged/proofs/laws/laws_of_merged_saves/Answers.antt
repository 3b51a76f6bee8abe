use Rattle.osm_merged.proofs.LawLemmas.{all_saved, both_next, given_first, saved_ahead}
use Rattle.osm_merged.proofs.laws.laws_of_merged_saves.Goals as goal

pub returns-clause-found : goal.returns-clause-found
returns-clause-found c = saved_ahead

pub returns-clause-made : goal.returns-clause-made
returns-clause-made c = all_saved

pub returns-clause-next : goal.returns-clause-next
returns-clause-next c = both_next

pub returns-clause-objects : goal.returns-clause-objects
returns-clause-objects c = given_first

pub returns-clause-counts : goal.returns-clause-counts
returns-clause-counts c = given_first
