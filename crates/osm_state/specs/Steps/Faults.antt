-- Steps of the proofs, which no public clause cites: the fault of a single value.
use Rattle.std.specs.Prelude.{ℕ, List}
use Rattle.osm_model.specs.Time.{TimeText}
use Rattle.osm_reading.specs.Sequence.{SpellsSequence}
use Rattle.osm_state.specs.StateFault.{EndsInEscape, StandsForNone}
use Rattle.osm_state.specs.declared.state_text.StateError.{StateError}
use Rattle.osm_state.specs.declared.state_text.StateError.TheVariants.{MissingSequence, BadEscape}
use Rattle.osm_state.specs.declared.state_text.StateError.TheVariants.{BadSequence, MissingTime}
use Rattle.osm_state.specs.declared.state_text.StateError.TheVariants.{BadTime}

-- the fault of the value of a sequence number
abbrev pub SequenceFault : List ℕ → StateError → Type 0
SequenceFault value BadEscape = EndsInEscape value
SequenceFault value BadSequence = StandsForNone SpellsSequence value
SequenceFault value MissingSequence = ⊥
SequenceFault value MissingTime = ⊥
SequenceFault value BadTime = ⊥

-- the fault of the value of a time
abbrev pub TimeFault : List ℕ → StateError → Type 0
TimeFault value BadEscape = EndsInEscape value
TimeFault value BadTime = StandsForNone TimeText value
TimeFault value MissingSequence = ⊥
TimeFault value MissingTime = ⊥
TimeFault value BadSequence = ⊥
