use Rattle.std.proofs.Common.{sym}
use Rattle.osm_opl.proofs.DateLemmas.{time_found}
use Rattle.osm_journal.proofs.batch.read_time.Goals as goal

pub returns : goal.returns
returns c = sym (time_found c.args.text.now c.time_read.result c.time_read.ensures.sound c.time_read.ensures.complete)
