use Rattle.std.proofs.Common.{arith}
use Rattle.std.proofs.lemmas.Grind.{common_steps}
use Rattle.osm_o5c.proofs.FieldLemmas.{no_uid}
use Rattle.osm_o5c.proofs.metadata.uid.Goals as goal

pub returns-then-is_empty-clause-finds : goal.returns-then-is_empty-clause-finds
returns-then-is_empty-clause-finds c = grind (arith, common_steps, no_uid)
