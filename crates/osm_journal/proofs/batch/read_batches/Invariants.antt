use Rattle.std.proofs.Common.{map}
use Rattle.osm_journal.specs.Journal.{batch_of}
use Rattle.osm_journal.proofs.BatchLemmas.{Batches}
use Rattle.osm_journal.proofs.batch.read_batches.Given as goal

abbrev pub invariant-loop-i : goal.invariant-loop-i
invariant-loop-i l = Batches l.fn.many l.fn.number l.fn.last l.fn.rest l.i (map batch_of l.batches.items) l.rest
