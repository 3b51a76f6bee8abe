use Rattle.osm_blocks.specs.Places.{left_of}
use Rattle.osm_merge.proofs.CheckLemmas.{opening_stop}
use Rattle.osm_store.specs.Frames.{IsKnown}
use Rattle.osm_asking.proofs.OpenedHeadLemmas.{opened_begins, other_head}
use Rattle.osm_asking.proofs.at_end.open_head.Goals as goal

pub returns-clause-begins : goal.returns-clause-begins
returns-clause-begins g c = λ known.
    let a = g.S.Store.state c.args.store.now in
    let at = c.in-Ok.ensures.opened known in
    opened_begins (a.files c.args.save.now) c.in-Ok.opening at.file (left_of c.in-Ok._source at.file) at.there at.head

pub returns-in-Err-clause-refused : goal.returns-in-Err-clause-refused
returns-in-Err-clause-refused g c = λ known.
    opening_stop ((g.S.Store.state c.args.store.now).files c.args.save.now) c.in-Err.fault (c.in-Err.ensures.refused known)

pub returns-then-not-has_head-clause-refused : goal.returns-then-not-has_head-clause-refused
returns-then-not-has_head-clause-refused g c = λ known.
    let a = g.S.Store.state c.args.store.now in
    let at = c.in-Ok.ensures.opened known in
    absurd (other_head (a.files c.args.save.now) c.in-Ok.opening at.file (left_of c.in-Ok._source at.file) at.there at.head (IsKnown a)
    c.args.start c.has_head.result c.requires c.has_head.ensures c.if-not-has_head.true known)
