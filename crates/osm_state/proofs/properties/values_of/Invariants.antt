use Rattle.std.proofs.Common.{◌≡◌, length}
use Rattle.std.specs.Option.{option_copied, option_or}
use Rattle.osm_reading.specs.Lines.{lines_after}
use Rattle.osm_state.specs.Properties.{last_value, value_of}
use Rattle.osm_state.specs.StateText.{sequence_key, time_key}
use Rattle.osm_state.proofs.properties.values_of.Given as goal

abbrev pub invariant-loop-rest : goal.invariant-loop-rest
invariant-loop-rest l = record {
  sequence : value_of l.text sequence_key ≡ option_or (last_value sequence_key (lines_after l.rest)) (option_copied l.sequence);
  time : value_of l.text time_key ≡ option_or (last_value time_key (lines_after l.rest)) (option_copied l.time);
}

abbrev pub decreases-loop-rest : goal.decreases-loop-rest
decreases-loop-rest l = length (lines_after l.rest)
