-- Why a text has no state: the first fault that applies, those of the sequence number before those
-- of the time.
use Rattle.std.specs.Prelude.{◌≡◌, ℕ, ◌⊎◌, List, Some, None}
use Rattle.osm_model.specs.Time.{TimeText}
use Rattle.osm_reading.specs.Sequence.{SpellsSequence}
use Rattle.osm_state.specs.Properties.{value_of, unescaped}
use Rattle.osm_state.specs.StateText.{sequence_key, time_key, SequenceOf, HasValue}
use Rattle.osm_state.specs.declared.state_text.StateError.{StateError}
use Rattle.osm_state.specs.declared.state_text.StateError.TheVariants.{MissingSequence, BadEscape}
use Rattle.osm_state.specs.declared.state_text.StateError.TheVariants.{BadSequence, MissingTime}
use Rattle.osm_state.specs.declared.state_text.StateError.TheVariants.{BadTime}

-- the value ends inside an escape
abbrev pub EndsInEscape : List ℕ → Type 0
EndsInEscape value = unescaped value ≡ None

-- without its escapes the value is the text of no number
pub record StandsForNone (IsText : List ℕ → ℕ → Type 0) (value : List ℕ) : Type 0 where
  pub plain : List ℕ
  pub stands_for : unescaped value ≡ Some plain
  pub none : (n : ℕ) → IsText plain n → ⊥

-- the text names a sequence number, so it has no fault of one
abbrev pub HasSequence : List ℕ → Type 0
HasSequence text = (n : ℕ) × SequenceOf text n

-- the fault of a text
abbrev pub FaultOf : List ℕ → StateError → Type 0
FaultOf text MissingSequence = value_of text sequence_key ≡ None
FaultOf text BadEscape =
    HasValue text sequence_key EndsInEscape
    ⊎ (HasSequence text × HasValue text time_key EndsInEscape)
FaultOf text BadSequence = HasValue text sequence_key (StandsForNone SpellsSequence)
FaultOf text MissingTime = HasSequence text × (value_of text time_key ≡ None)
FaultOf text BadTime = HasSequence text × HasValue text time_key (StandsForNone TimeText)
