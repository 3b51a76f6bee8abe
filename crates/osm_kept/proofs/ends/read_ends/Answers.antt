use Rattle.std.proofs.Common.{subst}
use Rattle.osm_kept.specs.Steps.Starting.{TellsStart}
use Rattle.osm_kept.proofs.AgainLemmas.{both_spent}
use Rattle.osm_kept.proofs.KeptLemmas.{ok_map}
use Rattle.osm_kept.proofs.OtherLemmas.{ends_free}
use Rattle.osm_kept.proofs.ends.read_ends.Goals as goal

pub returns-in-Some-clause-found : goal.returns-in-Some-clause-found
returns-in-Some-clause-found g c =
    let files = (g.S.Store.state c.args.store.now).files in
    let told = rw (c.in_ok-bytes.ensures.frame.makes.known, c.in_ok-bytes.ensures.frame.files) at c.in_ok-start.ensures.told in
    ok_map _ _ c.ends_beside.result c.ends_beside.ensures.found (λ ends finds known. finds (files c.args.save.now) (files c.args.journal.now) (record {
      starts = subst (λ o. TellsStart (files c.args.save.now) o) c.in-Some.is (told known);
      journal_is = c.in_ok-bytes.ensures.read known;
    }))

pub returns-in-Some-clause-free : goal.returns-in-Some-clause-free
returns-in-Some-clause-free g c =
    let files = (g.S.Store.state c.args.store.now).files in
    ok_map _ _ c.ends_beside.result (returns-in-Some-clause-found g c) (λ ends finds known.
    ends_free (files c.args.save.now) (files c.args.journal.now) ends (finds known))

pub returns-in-Some-clause-spends : goal.returns-in-Some-clause-spends
returns-in-Some-clause-spends g c =
    both_spent (g.S.Store.state c.args.store.now).left (g.S.Store.state c.read_bytes.new.store).left (g.S.Store.state c.read_start.new.store).left
    c.ends_beside.result c.in_ok-bytes.ensures.frame.at_most.spent c.in_ok-start.ensures.frame.at_most.spent
