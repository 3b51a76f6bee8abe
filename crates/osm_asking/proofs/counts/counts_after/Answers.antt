use Rattle.osm_net.specs.Lists.{net_in}
use Rattle.osm_save.specs.Head.{most_counted}
use Rattle.osm_asking.proofs.CountLemmas.{changesets_given, users_given, users_refused}
use Rattle.osm_asking.proofs.counts.counts_after.Goals as goal

pub returns-in-User-clause-counted : goal.returns-in-User-clause-counted
returns-in-User-clause-counted g c =
    rw c.in-User.is
    (users_given c.laws_of_merged_saves.ensures.next (g.S.Store.state c.args.store.now) c.args.save.now (net_in c.args.laid.now.lists)
    (most_counted c.args.opening.now.head) c.args.source.now c.users_after.new.source c.users_after.result
    (rw c.as_slice.ensures.value at c.users_after.ensures.given))

pub returns-in-User-clause-refused : goal.returns-in-User-clause-refused
returns-in-User-clause-refused g c =
    users_refused (g.S.Store.state c.args.store.now) c.args.save.now (most_counted c.args.opening.now.head) c.args.source.now c.users_after.result
    c.users_after.ensures.refused

pub returns-in-Changeset-clause-counted : goal.returns-in-Changeset-clause-counted
returns-in-Changeset-clause-counted g c =
    rw c.in-Changeset.is
    (changesets_given c.laws_of_merged_saves.ensures.next (g.S.Store.state c.args.store.now) c.args.save.now (net_in c.args.laid.now.lists)
    (most_counted c.args.opening.now.head) c.args.source.now c.changesets_after.new.source c.changesets_after.result
    (rw c.as_slice-more.ensures.value at c.changesets_after.ensures.given))
