use Rattle.osm_merged.specs.Ahead.{most_ahead}
use Rattle.osm_asking.proofs.CountLemmas.{Gathering}
use Rattle.osm_asking.proofs.counts.gather.Given as goal

abbrev pub invariant-counts : goal.invariant-counts
invariant-counts g l =
    Gathering (g.S.Store.state l.fn.store) (g.S.Store.state l.store) l.fn.save l.fn.counts l.counts l.fn.source l.source l.gathered.items

abbrev pub decreases-counts : goal.decreases-counts
decreases-counts g l = most_ahead l.counts.ahead
