use Rattle.osm_kept.proofs.LaidLemmas.{is_laid, lays_over}
use Rattle.osm_kept.proofs.laid.laid_of.Goals as goal

pub returns-clause-laid : goal.returns-clause-laid
returns-clause-laid c = λ told file finds.
    lays_over c.args.reach.now c.args.journal.now c.in_ok-net.net c.in_ok-lists.lists c.start_for.result c.requires c.in_ok-net.ensures.taken
    c.in_ok-lists.ensures.lists c.start_for.ensures told file finds (c.in_ok-net.ensures.found told file finds) (c.in_ok-net.ensures.from told file finds)

pub returns-clause-plain : goal.returns-clause-plain
returns-clause-plain c =
    is_laid c.args.reach.now c.args.journal.now c.in_ok-net.net c.in_ok-lists.lists c.start_for.result c.requires c.in_ok-net.ensures.taken
    c.in_ok-lists.ensures.lists c.in_ok-lists.ensures.net c.start_for.ensures
