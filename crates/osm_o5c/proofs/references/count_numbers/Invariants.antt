use Rattle.std.proofs.Common.{◌≤◌}
use Rattle.osm_o5c.proofs.references.count_numbers.Given as goal

abbrev pub invariant-loop-byte : goal.invariant-loop-byte
invariant-loop-byte l = l.count ≤ l.byte-index
