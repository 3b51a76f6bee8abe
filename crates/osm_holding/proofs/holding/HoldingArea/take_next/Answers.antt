-- What is held has a sequence number.
use Rattle.std.proofs.Common.{arith, ◌+◌}
use Rattle.osm_holding.proofs.SlotLemmas.{OnSome_from}
use Rattle.osm_holding.proofs.holding.HoldingArea.take_next.Goals as goal

pub returns-clause-room : goal.returns-clause-room
returns-clause-room c =
    let value = rw (← c.self.view_is) at c.replace.ensures.value in
    rw (← c.self.view_is) (OnSome_from _ _ _ value (λ some. let limit = c.self.invariant.sequences (c.self.inside.reached + 1) some in omega (arith, limit)))
