use Rattle.std.proofs.Common.{◌≡◌, ◌+◌}
use Rattle.osm_holding.proofs.SlotLemmas.{numbers_before}
use Rattle.osm_holding.proofs.holding.HoldingArea.numbers.Given as goal

abbrev pub invariant-loop-index : goal.invariant-loop-index
invariant-loop-index l = l.numbers.items ≡ numbers_before (l.self-inside.reached + 1) l.self-inside.slots.items l.index
