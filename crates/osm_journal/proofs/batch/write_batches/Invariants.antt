use Rattle.std.proofs.Common.{◌≡◌, ◌++◌, map, take}
use Rattle.osm_journal.specs.Journal.{batch_of, batches_text}
use Rattle.osm_journal.proofs.batch.write_batches.Given as goal

abbrev pub invariant-loop-batch : goal.invariant-loop-batch
invariant-loop-batch l = l.out.items ≡ l.initial.out.items ++ batches_text (map batch_of (take l.batch-index l.batches))
