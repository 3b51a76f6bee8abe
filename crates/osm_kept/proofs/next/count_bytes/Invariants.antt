use Rattle.std.proofs.Common.{◌≤◌, length, map, take}
use Rattle.osm_journal.specs.Journal.{batch_of, batches_text}
use Rattle.osm_kept.proofs.next.count_bytes.Given as goal

abbrev pub invariant-loop-batch : goal.invariant-loop-batch
invariant-loop-batch l = l.count ≤ length (batches_text (map batch_of (take l.batch-index l.batches)))
