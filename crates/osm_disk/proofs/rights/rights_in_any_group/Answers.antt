use Rattle.std.proofs.lemmas.Nat.Bits.{and_high}
use Rattle.osm_disk.proofs.rights.rights_in_any_group.Goals as goal

pub returns-else-mode-clause-unlike : goal.returns-else-mode-clause-unlike
returns-else-mode-clause-unlike c = λ differs. and_high c.args.mode 3 6
