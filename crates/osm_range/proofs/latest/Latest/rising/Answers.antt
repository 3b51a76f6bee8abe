use Rattle.std.proofs.Common.{rules}
use Rattle.std.proofs.lemmas.Fn.{always_returns_same}
use Rattle.osm_range.proofs.RisingLemmas.{rows_rise}
use Rattle.osm_range.proofs.latest.Latest.rising.Goals as goal

pub returns : goal.returns
returns c = rw (← c.self.view_is)
    (rows_rise c.self.inside.changes.entries c.in_ok-rows.rows.items c.sort_unstable_by_key.new.self.items c.self.invariant c.in_ok-rows.ensures
    c.sort_unstable_by_key.ensures.permutation
    (c.sort_unstable_by_key.ensures.sorted (λ r. r.0) (always_returns_same _ _ _ (λ a r q k. search rules))))
