use Rattle.std.proofs.Common.{ℕ, ◌<◌, ◌≤◌, length, get_or}
use Rattle.osm_o5c.proofs.numbers.last_index.Given as goal

abbrev pub invariant-loop-index : goal.invariant-loop-index
invariant-loop-index l = record {
  within : l.index ≤ length l.bytes;
  high : (k : ℕ) → k < l.index → 128 ≤ get_or l.bytes k 0;
}
