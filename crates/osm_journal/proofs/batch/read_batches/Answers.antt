use Rattle.std.proofs.Common.{◌+◌, ◌-◌, map}
use Rattle.std.proofs.lemmas.List.{map-append}
use Rattle.osm_journal.specs.Journal.{batch_of}
use Rattle.osm_journal.specs.Reading.{batch_at}
use Rattle.osm_journal.proofs.BatchLemmas.{batches_more, batches_wrong, plainly_none}
use Rattle.osm_journal.proofs.batch.read_batches.Goals as goal

pub returns-in-Err : goal.returns-in-Err
returns-in-Err c =
    batches_wrong c.args.many c.args.number c.args.last c.args.rest.now c.loop-i.i (map batch_of c.loop-i.batches.items) c.loop-i.rest.now
    c.loop-i-test.true c.loop-i.invariant (plainly_none c.in-Err._stop
    (batch_at (c.args.number + c.loop-i.i + 1) (c.args.many - c.loop-i.i - 1) c.args.last c.loop-i.rest.now) c.in-Err.ensures)

pub loop-i-preserved : goal.loop-i-preserved
loop-i-preserved c =
    rw (c.in_ok-add_batch.ensures, map-append) (batches_more c.args.many c.args.number c.args.last c.args.rest.now c.loop-i.i
    (map batch_of c.loop-i.batches.items) c.loop-i.rest.now c.in-Ok.read.1.now (batch_of c.in-Ok.read.0) c.loop-i-test.true
    c.loop-i.invariant c.in-Ok.ensures)
