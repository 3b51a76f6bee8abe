use Rattle.osm_holding.proofs.AreaLemmas.{is_holding}
use Rattle.osm_holding.proofs.holding.HoldingArea.reached.Goals as goal

pub returns-clause-limits : goal.returns-clause-limits
returns-clause-limits c = rw (← c.self.view_is) (is_holding c.self.inside.reached c.self.inside.slots c.self.invariant)
