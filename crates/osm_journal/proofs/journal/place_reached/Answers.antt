use Rattle.osm_journal.proofs.BatchLemmas.{last_is}
use Rattle.osm_journal.proofs.journal.place_reached.Goals as goal

pub returns-clause-number : goal.returns-clause-number
returns-clause-number c =
    (last_is c.args.batches.now c.in-Some.batch.now c.args.head.number c.args.head.time c.in-Some.ensures.value).0

pub returns-clause-time : goal.returns-clause-time
returns-clause-time c =
    (last_is c.args.batches.now c.in-Some.batch.now c.args.head.number c.args.head.time c.in-Some.ensures.value).1
