use Rattle.osm_asking.proofs.SearchLemmas.{low_moved}
use Rattle.osm_asking.proofs.find.step.Goals as goal

pub returns-clause-low : goal.returns-clause-low
returns-clause-low g c = λ start is.
    low_moved (g.S.Store.state c.args.store.now) c.args.name.now start c.args.middle c.args.ends c.moved.result c.args.wanted c.in-Ok.probed is
    c.requires.middle c.in-Ok.ensures.probed c.moved.ensures
