use Rattle.osm_save.proofs.SaveLemmas.{no_save, save_takes}
use Rattle.osm_save.proofs.save.save_read.Goals as goal

pub returns-in-Ok-clause-spelled : goal.returns-in-Ok-clause-spelled
returns-in-Ok-clause-spelled c = save_takes c.args.bytes.now c.in-Ok.saved c.in-Ok.ensures

pub returns-in-Err-Wrong-clause-refused : goal.returns-in-Err-Wrong-clause-refused
returns-in-Err-Wrong-clause-refused c = no_save c.args.bytes.now (rw c.in-Err-Wrong.field-0-is at c.in-Err-Wrong.ensures)
