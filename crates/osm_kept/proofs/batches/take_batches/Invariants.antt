use Rattle.std.proofs.Common.{◌≡◌, ◌+◌, map, take}
use Rattle.osm_journal.specs.Journal.{batch_of}
use Rattle.osm_kept.specs.Steps.Taking.{HasTaken}
use Rattle.osm_kept.proofs.batches.take_batches.Given as goal

abbrev pub invariant-loop-batch : goal.invariant-loop-batch
invariant-loop-batch l = record {
  taken : HasTaken l.fn.filter (map batch_of (take l.batch-index l.batches)) l.net;
  line : l.line ≡ l.fn.first + l.batch-index;
}
