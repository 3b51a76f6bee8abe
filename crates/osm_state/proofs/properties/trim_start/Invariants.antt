use Rattle.std.proofs.Common.{◌≡◌, length}
use Rattle.osm_state.specs.Properties.{trimmed_start}
use Rattle.osm_state.proofs.properties.trim_start.Given as goal

abbrev pub invariant-loop-first : goal.invariant-loop-first
invariant-loop-first l = trimmed_start l.rest ≡ trimmed_start l.fn.bytes

abbrev pub decreases-loop-first : goal.decreases-loop-first
decreases-loop-first l = length l.rest
