use Rattle.std.proofs.Common.{[], arith, drop, get_or, map, suc, take}
use Rattle.std.proofs.lemmas.List.{map_more}
use Rattle.osm_journal.specs.Journal.{batch_of}
use Rattle.osm_journal.specs.declared.batch.Batch.{Batch}
use Rattle.osm_kept.proofs.BatchLemmas.{batch_limits, batches_split, batches_stop, few_taken, room_for_more, taken_count, takes_more}
use Rattle.osm_kept.proofs.BatchLemmas.{takes_nothing}
use Rattle.osm_kept.proofs.batches.take_batches.Goals as goal

abbrev none : Batch
none = record { number = 0; time = 0; bytes = record { ref_ptr = (0, 0); now = [] } }

pub loop-batch-init : goal.loop-batch-init
loop-batch-init c = record {
  taken = rw c.new-net.ensures (takes_nothing c.args.filter.now);
  line = omega arith;
}

pub take_batch-requires-clause-short : goal.take_batch-requires-clause-short
take_batch-requires-clause-short c =
    let limits = batch_limits c.args.batches.now c.loop-batch.batch-index none c.loop-batch-test.true c.requires.each in
    limits.short

pub take_batch-requires-clause-room : goal.take_batch-requires-clause-room
take_batch-requires-clause-room c =
    let bs = c.args.batches.now in
    let i = c.loop-batch.batch-index in
    room_for_more c.args.filter.now (map batch_of (take i bs)) c.loop-batch.net c.loop-batch.invariant.taken
    (few_taken bs i c.loop-batch-test.true c.requires.few)

pub returns-in-Err-clause-stops : goal.returns-in-Err-clause-stops
returns-in-Err-clause-stops c =
    let bs = c.args.batches.now in
    let i = c.loop-batch.batch-index in
    let below = c.loop-batch-test.true in
    let line = c.loop-batch.invariant.line in
    let count = taken_count bs i (omega (arith, below)) in
    batches_stop c.args.first c.loop-batch.line (map batch_of bs) (map batch_of (take i bs)) (batch_of (get_or bs i none))
    (map batch_of (drop (suc i) bs)) c.in-Err.fault (batches_split bs i none below) c.loop-batch.invariant.taken.right
    (omega (arith, line, count)) c.in-Err.ensures.stops

pub loop-batch-preserved : goal.loop-batch-preserved
loop-batch-preserved c =
    let bs = c.args.batches.now in
    let i = c.loop-batch.batch-index in
    let below = c.loop-batch-test.true in
    let line = c.loop-batch.invariant.line in
    record {
      taken = rw (map_more batch_of bs i none below) (takes_more c.args.filter.now (map batch_of (take i bs)) (batch_of (get_or bs i none))
          c.loop-batch.net c.take_batch.new.net c.loop-batch.invariant.taken c.in-Ok.ensures.taken);
      line = omega (arith, line);
    }
