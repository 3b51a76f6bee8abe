use Rattle.std.proofs.Common.{◌≡◌, ◌+◌, ◌≤◌, length}
use Rattle.osm_holding.proofs.SlotLemmas.{numbers_before}
use Rattle.osm_holding.proofs.holding.HoldingArea.count.Given as goal

abbrev pub invariant-loop-index : goal.invariant-loop-index
invariant-loop-index l = record {
  shown : l.count ≡ length (numbers_before (l.self-inside.reached + 1) l.self-inside.slots.items l.index);
  few : l.count ≤ l.index;
}
