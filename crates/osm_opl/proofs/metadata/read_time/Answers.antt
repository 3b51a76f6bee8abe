use Rattle.osm_opl.proofs.DateLemmas.{time_found}
use Rattle.osm_opl.proofs.metadata.read_time.Goals as goal

pub returns-in-Some-clause-value : goal.returns-in-Some-clause-value
returns-in-Some-clause-value c = rw (c.in-Some.is) at (time_found c.args.bytes.now c.time_read.result c.time_read.ensures.sound c.time_read.ensures.complete)

pub returns-in-None-clause-value : goal.returns-in-None-clause-value
returns-in-None-clause-value c = rw (c.in-None.is) at (time_found c.args.bytes.now c.time_read.result c.time_read.ensures.sound c.time_read.ensures.complete)
