use Rattle.osm_save.proofs.HeadLemmas.{head_begins, no_head}
use Rattle.osm_save.proofs.head.head_read.Goals as goal

pub returns-in-Ok-clause-begins : goal.returns-in-Ok-clause-begins
returns-in-Ok-clause-begins c =
    head_begins c.args.bytes.now (c.in-Ok._version, c.in-Ok.head, c.in-Ok._filter, c.in-Ok._rest.now) c.in-Ok.ensures.value

pub returns-in-Err-Wrong-clause-refused : goal.returns-in-Err-Wrong-clause-refused
returns-in-Err-Wrong-clause-refused c = no_head c.args.bytes.now (rw c.in-Err-Wrong.field-0-is at c.in-Err-Wrong.ensures.value)
