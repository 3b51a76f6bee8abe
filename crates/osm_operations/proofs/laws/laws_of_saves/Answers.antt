use Rattle.std.proofs.Common.{ap}
use Rattle.osm_save.specs.declared.head.Head.{Head}
use Rattle.osm_kept.specs.Names.{journal_name_of}
use Rattle.osm_operations.proofs.KeptLemmas.{older}
use Rattle.osm_operations.proofs.OneInStep.{one_in_step}
use Rattle.osm_operations.proofs.laws.laws_of_saves.Goals as goal

-- the head has the number and the base
pub returns-clause-one : goal.returns-clause-one
returns-clause-one c = λ published given v w step other head. one_in_step published given v w step other
    (ap (λ (x : Head). x.number) head) (ap (λ (x : Head). x.base) head)

pub returns-clause-older : goal.returns-clause-older
returns-clause-older c = λ given save files v w kept saved. older given (files save) (files (journal_name_of save)) v w kept saved
