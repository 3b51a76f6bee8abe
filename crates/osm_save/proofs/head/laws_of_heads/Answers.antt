use Rattle.osm_save.proofs.HeadLemmas.{one_head, save_begins, save_has_keys}
use Rattle.osm_save.proofs.head.laws_of_heads.Goals as goal

pub returns-clause-one_head : goal.returns-clause-one_head
returns-clause-one_head c = one_head

pub returns-clause-begins : goal.returns-clause-begins
returns-clause-begins c = save_begins

pub returns-clause-keys : goal.returns-clause-keys
returns-clause-keys c = save_has_keys
