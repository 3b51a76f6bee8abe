use Rattle.osm_holding.proofs.AreaLemmas.{are_moved, moved_area}
use Rattle.osm_holding.proofs.holding.HoldingArea.advance.Goals as goal

pub returns : goal.returns
returns c =
    let free = rw (← c.self.view_is) at c.requires.free in
    rw (← c.self.view_is) (moved_area c.self.inside.reached c.self.inside.slots c.push_back.new.self c.self.invariant c.push_back.ensures.items free)

pub invariant_of-self : goal.invariant_of-self
invariant_of-self c =
    let room = rw (← c.self.view_is) at c.requires.room in
    let free = rw (← c.self.view_is) at c.requires.free in
    are_moved c.self.inside.reached c.self.inside.slots c.push_back.new.self c.self.invariant room c.push_back.ensures.items free
