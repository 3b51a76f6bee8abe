use Rattle.std.proofs.Common.{refl}
use Rattle.osm_journal.specs.Journal.{journal_of}
use Rattle.osm_kept.proofs.NextLemmas.{more_written}
use Rattle.osm_kept.proofs.next.more_text.Goals as goal

pub returns : goal.returns
returns c =
    more_written c.args.most c.args.bytes.now (journal_of c.in-Ok.journal) c.in-Ok.journal.batches.items c.args.batches.now
    c.add_batches.new.out.items c.write_within.result c.in-Ok.ensures.spelled refl c.in_ok-add_batches.ensures c.write_within.ensures
