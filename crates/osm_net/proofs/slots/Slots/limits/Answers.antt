use Rattle.std.proofs.lemmas.Map.Made.{keys_of-map_values}
use Rattle.osm_net.specs.Steps.Entries.{slot_at}
use Rattle.osm_net.proofs.slots.Slots.limits.Goals as goal

pub returns : goal.returns
returns c = rw (← c.self.view_is, keys_of-map_values (slot_at c.self.inside.slots.items) c.self.inside.index) c.limits.ensures
