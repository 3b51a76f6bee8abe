use Rattle.std.proofs.Common.{◌≡◌, map, take}
use Rattle.osm_journal.specs.Journal.{batch_of}
use Rattle.osm_round.specs.Gathering.{batch_in}
use Rattle.osm_round.proofs.keeping.batches_of.Given as goal

abbrev pub invariant-loop-text : goal.invariant-loop-text
invariant-loop-text l = record {
  made : map batch_of l.batches.items ≡ map batch_in (take l.text-index l.texts);
}
