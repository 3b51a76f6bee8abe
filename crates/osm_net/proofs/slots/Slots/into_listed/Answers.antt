use Rattle.osm_net.proofs.SlotLemmas.{listed_entries, listed_many}
use Rattle.osm_net.proofs.slots.Slots.into_listed.Goals as goal

pub returns-in-Ok-clause-entries : goal.returns-in-Ok-clause-entries
returns-in-Ok-clause-entries c =
    rw (← c.self.view_is) (listed_entries c.in-Ok.ids.items c.self.inside.index c.self.inside.slots.items c.in-Ok.ensures.listed c.self.invariant)

pub returns-in-Ok-clause-many : goal.returns-in-Ok-clause-many
returns-in-Ok-clause-many c = listed_many c.in-Ok.ids.items c.self.inside.index c.self.inside.slots.items c.in-Ok.ensures.listed c.self.invariant
