use Rattle.std.proofs.Common.{length}
use Rattle.osm_state.proofs.EscapeLemmas.{IsUnescaping}
use Rattle.osm_state.proofs.properties.unescape.Given as goal

abbrev pub invariant-loop-first : goal.invariant-loop-first
invariant-loop-first l = IsUnescaping l.fn.value l.rest l.plain.items

abbrev pub decreases-loop-first : goal.decreases-loop-first
decreases-loop-first l = length l.rest
