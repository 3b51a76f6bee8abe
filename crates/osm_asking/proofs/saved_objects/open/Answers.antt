use Rattle.osm_store.specs.Frames.{IsKnown}
use Rattle.osm_asking.proofs.OpenedHeadLemmas.{other_head}
use Rattle.osm_asking.proofs.saved_objects.open.Goals as goal

pub returns-then-not-has_head-clause-refused : goal.returns-then-not-has_head-clause-refused
returns-then-not-has_head-clause-refused g c = λ known.
    let a = g.S.Store.state c.args.store.now in
    let at = c.in-Ok.ensures.opened known in
    other_head (a.files c.args.save.now) c.in-Ok.opened.1 at.file at.rest at.there at.head (IsKnown a)
    c.args.start c.has_head.result c.requires c.has_head.ensures c.if-not-has_head.true known
