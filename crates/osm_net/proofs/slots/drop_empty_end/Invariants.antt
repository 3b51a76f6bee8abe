use Rattle.std.proofs.Common.{◌≡◌, ◌≤◌, ℕ, length}
use Rattle.osm_net.specs.Steps.Entries.{slot_at}
use Rattle.osm_net.proofs.slots.drop_empty_end.Given as goal

abbrev pub invariant-loop-slots : goal.invariant-loop-slots
invariant-loop-slots l = record {
  same : (slot : ℕ) → slot_at l.slots.items slot ≡ slot_at l.initial.slots.items slot;
  no_more : length l.slots.items ≤ length l.initial.slots.items;
}

abbrev pub decreases-loop-slots : goal.decreases-loop-slots
decreases-loop-slots l = length l.slots.items
