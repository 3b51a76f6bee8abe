use Rattle.std.proofs.Common.{◌≡◌, None, replicate}
use Rattle.circular_buffer.specs.Buffer.{buffer}
use Rattle.osm_holding.proofs.holding.fill.Given as goal

abbrev pub invariant-loop : goal.invariant-loop
invariant-loop l = l.slots ≡ buffer (replicate l.counter None) 64
