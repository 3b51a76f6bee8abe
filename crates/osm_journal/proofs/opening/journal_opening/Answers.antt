use Rattle.osm_journal.proofs.OpeningLemmas.{no_opens, opens_takes}
use Rattle.osm_journal.proofs.opening.journal_opening.Goals as goal

pub returns-in-Ok-clause-opens : goal.returns-in-Ok-clause-opens
returns-in-Ok-clause-opens c = opens_takes c.args.bytes.now c.in-Ok.opening c.in-Ok._rest.now c.in-Ok.ensures.value

pub returns-in-Err-Wrong-clause-refused : goal.returns-in-Err-Wrong-clause-refused
returns-in-Err-Wrong-clause-refused c = no_opens c.args.bytes.now (rw c.in-Err-Wrong.field-0-is at c.in-Err-Wrong.ensures.value)
