use Rattle.osm_model.proofs.ContentLemmas.{kinds_are_ordered, keys_are_told, contents_join, edits_add}
use Rattle.osm_model.proofs.content.laws_of_content.Goals as goal

pub returns-clause-kinds : goal.returns-clause-kinds
returns-clause-kinds c = kinds_are_ordered

pub returns-clause-keys : goal.returns-clause-keys
returns-clause-keys c = keys_are_told

pub returns-clause-contents : goal.returns-clause-contents
returns-clause-contents c = contents_join

pub returns-clause-edits : goal.returns-clause-edits
returns-clause-edits c = edits_add
