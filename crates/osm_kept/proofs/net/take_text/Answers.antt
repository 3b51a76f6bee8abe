use Rattle.std.proofs.Common.{arith}
use Rattle.std.proofs.lemmas.List.{length-map}
use Rattle.osm_journal.specs.Journal.{batch_of, journal_of}
use Rattle.osm_kept.proofs.TakingLemmas.{few_batches}
use Rattle.osm_kept.proofs.net.take_text.Goals as goal

pub take_batches-requires-clause-few : goal.take_batches-requires-clause-few
take_batches-requires-clause-few c =
    let few = few_batches (journal_of c.in_ok-journal.journal) c.in_ok-journal.ensures.spelled.journal in
    let count = length-map c.in_ok-journal.journal.batches.items batch_of in
    rw c.as_slice.ensures.value (omega (arith, few, count))
