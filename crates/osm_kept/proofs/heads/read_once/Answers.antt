use Rattle.osm_kept.proofs.AgainLemmas.{both_spent}
use Rattle.osm_kept.proofs.HeadLemmas.{heads_free}
use Rattle.osm_kept.proofs.KeptLemmas.{ok_map}
use Rattle.osm_kept.proofs.heads.read_once.Goals as goal

pub returns-clause-free : goal.returns-clause-free
returns-clause-free g c =
    let files = (g.S.Store.state c.args.store.now).files in
    let told = rw (c.in_ok-bytes.ensures.frame.makes.known, c.in_ok-bytes.ensures.frame.files) at c.in_ok-start.ensures.told in
    let found = rw c.as_slice.ensures.value at c.head_of_both.ensures.found in
    ok_map _ _ c.head_of_both.result found (λ head finds known. heads_free (files c.args.save.now) (files c.args.journal.now) head
    (finds (files c.args.save.now) (files c.args.journal.now) (record { starts = told known; first = c.in_ok-bytes.ensures.read known })))

pub returns-clause-spends : goal.returns-clause-spends
returns-clause-spends g c =
    both_spent (g.S.Store.state c.args.store.now).left (g.S.Store.state c.read_first.new.store).left (g.S.Store.state c.read_start.new.store).left
    c.head_of_both.result c.in_ok-bytes.ensures.frame.at_most.spent c.in_ok-start.ensures.frame.at_most.spent
