use Rattle.std.proofs.Common.{◌≡◌, ◌≤◌, ◌+◌, ◌++◌, ◌∷◌, [], arith, get_or, length, map, take}
use Rattle.std.proofs.lemmas.List.{map_more}
use Rattle.osm_journal.specs.Journal.{batch_of, batches_text}
use Rattle.osm_journal.specs.declared.batch.Batch.{Batch}
use Rattle.osm_kept.proofs.NextLemmas.{one_long}
use Rattle.osm_kept.proofs.next.count_bytes.Goals as goal

pub loop-batch-preserved : goal.loop-batch-preserved
loop-batch-preserved c =
    let none : Batch = record { number = 0; time = 0; bytes = record { ref_ptr = (0, 0); now = [] } } in
    let batch : Batch = get_or c.args.batches.now c.loop-batch.batch-index none in
    let before = map batch_of (take c.loop-batch.batch-index c.args.batches.now) in
    let more : map batch_of (take (c.loop-batch.batch-index + 1) c.args.batches.now) ≡ before ++ batch_of batch ∷ [] =
    map_more batch_of c.args.batches.now c.loop-batch.batch-index none c.loop-batch-test.true in
    let long = one_long before (batch_of batch) in
    let old : c.loop-batch.count ≤ length (batches_text before) = c.loop-batch.invariant in
    let sum = c.saturating_add-count.ensures in
    rw more (omega (arith, long, old, sum))
