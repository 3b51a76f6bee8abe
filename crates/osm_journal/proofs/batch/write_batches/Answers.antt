use Rattle.std.proofs.Common.{◌≡◌, ◌+◌, ◌++◌, ◌∷◌, [], get_or, map, take}
use Rattle.std.proofs.lemmas.List.{map_more}
use Rattle.osm_journal.specs.Journal.{batch_of}
use Rattle.osm_journal.specs.declared.batch.Batch.{Batch}
use Rattle.osm_journal.proofs.BatchLemmas.{text_more}
use Rattle.osm_journal.proofs.batch.write_batches.Goals as goal

pub loop-batch-preserved : goal.loop-batch-preserved
loop-batch-preserved c =
    let none : Batch = record { number = 0; time = 0; bytes = record { ref_ptr = (0, 0); now = [] } } in
    let batch : Batch = get_or c.args.batches.now c.loop-batch.batch-index none in
    let before = map batch_of (take c.loop-batch.batch-index c.args.batches.now) in
    let more : map batch_of (take (c.loop-batch.batch-index + 1) c.args.batches.now) ≡ before ++ batch_of batch ∷ [] =
    map_more batch_of c.args.batches.now c.loop-batch.batch-index none c.loop-batch-test.true in
    rw more (text_more c.args.out.now.items c.loop-batch.out.items c.write_batch.new.out.items before (batch_of batch)
    c.loop-batch.invariant c.in_ok-write_batch.ensures)
