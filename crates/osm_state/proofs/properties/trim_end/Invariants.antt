use Rattle.std.proofs.Common.{◌≡◌, length}
use Rattle.osm_state.specs.Properties.{trimmed_end}
use Rattle.osm_state.proofs.properties.trim_end.Given as goal

abbrev pub invariant-loop-last : goal.invariant-loop-last
invariant-loop-last l = trimmed_end l.rest ≡ trimmed_end l.fn.bytes

abbrev pub decreases-loop-last : goal.decreases-loop-last
decreases-loop-last l = length l.rest
