use Rattle.std.proofs.Common.{◌≡◌, ◌++◌, take}
use Rattle.osm_kept.proofs.next.add_batches.Given as goal

abbrev pub invariant-loop-batch : goal.invariant-loop-batch
invariant-loop-batch l = l.out.items ≡ l.initial.out.items ++ take l.batch-index l.batches
