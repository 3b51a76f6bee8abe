use Rattle.osm_state.proofs.EscapeLemmas.{all_read}
use Rattle.osm_state.proofs.properties.unescape.Goals as goal

pub returns : goal.returns
returns c = all_read _ _ _ c.loop-first.invariant c.in_default.ensures.cases
