use Rattle.std.proofs.Common.{◌≡◌, ◌++◌, take}
use Rattle.osm_state.specs.StateText.{escaped_colons}
use Rattle.osm_state.proofs.state_text.append_escaped.Given as goal

abbrev pub invariant-loop-byte : goal.invariant-loop-byte
invariant-loop-byte l = l.text.items ≡ l.initial.text.items ++ escaped_colons (take l.byte-index l.fn.bytes)
