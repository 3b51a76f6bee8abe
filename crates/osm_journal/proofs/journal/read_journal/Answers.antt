use Rattle.osm_journal.proofs.JournalLemmas.{journal_spelled, journal_stops, no_opening}
use Rattle.osm_journal.proofs.journal.read_journal.Goals as goal

pub returns-in-Ok-clause-spelled : goal.returns-in-Ok-clause-spelled
returns-in-Ok-clause-spelled c =
    journal_spelled c.args.bytes.now c.in-Ok.opening c.in-Ok.rest.now c.read_rest.result c.in-Ok.ensures.value c.read_rest.ensures

pub returns-in-Ok-clause-refused : goal.returns-in-Ok-clause-refused
returns-in-Ok-clause-refused c =
    journal_stops c.args.bytes.now c.in-Ok.opening c.in-Ok.rest.now c.read_rest.result c.in-Ok.ensures.value c.read_rest.ensures

pub returns-in-Err-Wrong-clause-refused : goal.returns-in-Err-Wrong-clause-refused
returns-in-Err-Wrong-clause-refused c = no_opening c.args.bytes.now (rw c.in-Err-Wrong.field-0-is at c.in-Err-Wrong.ensures.value)
