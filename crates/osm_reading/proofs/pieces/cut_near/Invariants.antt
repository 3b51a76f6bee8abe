use Rattle.std.proofs.Common.{ℕ, ◌-◌, ◌<◌, get_or, length}
use Rattle.std.specs.Prelude.{◌≢◌}
use Rattle.osm_reading.proofs.pieces.cut_near.Given as goal

abbrev pub invariant-loop-at : goal.invariant-loop-at
invariant-loop-at l = (k : ℕ) → k < l.at → get_or l.bytes k 0 ≢ l.separator

abbrev pub decreases-loop-at : goal.decreases-loop-at
decreases-loop-at l = length l.bytes - l.at
