-- What holds for state texts and paths, whatever the code does.
use Rattle.std.specs.Prelude.{◌≡◌, ℕ, ◌≤◌, List}
use Rattle.osm_model.specs.Limits.{IsPositive, max_sequence}
use Rattle.osm_model.specs.Time.{TimeText}
use Rattle.osm_model.specs.CivilTime.{time_text}
use Rattle.osm_state.specs.State.{StateValue, IsState}
use Rattle.osm_state.specs.StateText.{StateOf, state_text}
use Rattle.osm_state.specs.StateFault.{FaultOf}
use Rattle.osm_state.specs.Path.{path_text}
use Rattle.osm_state.specs.declared.state_text.StateError.{StateError}
use Rattle.osm_state.specs.declared.paths.Suffix.{Suffix}

-- the text that is written for a state has that state
abbrev pub WrittenIsRead : Type 0
WrittenIsRead = (s : StateValue) → IsState s → StateOf (state_text s) s

-- the text of a time that is found by counting years and months on is the text of that time
abbrev pub CountedTimeIsText : Type 0
CountedTimeIsText = (time : ℕ) → IsPositive time → TimeText (time_text time) time

-- a text has at most one state
abbrev pub OneState : Type 0
OneState = (text : List ℕ) (s t : StateValue) → StateOf text s → StateOf text t → s ≡ t

-- a text doesn't have both a state and a fault
abbrev pub NoFaultBesideState : Type 0
NoFaultBesideState =
    (text : List ℕ) (s : StateValue) (e : StateError) → StateOf text s → FaultOf text e → ⊥

-- a text has at most one fault
abbrev pub OneFault : Type 0
OneFault = (text : List ℕ) (e f : StateError) → FaultOf text e → FaultOf text f → e ≡ f

-- a path is that of at most one sequence and one suffix
abbrev pub OnePath : Type 0
OnePath =
    (m n : ℕ) (s t : Suffix) → m ≤ max_sequence → n ≤ max_sequence →
    path_text m s ≡ path_text n t → (m ≡ n) × (s ≡ t)
