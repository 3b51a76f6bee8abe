-- How the object of an answer is noted and printed.
use Rattle.std.specs.Prelude.{◌≡◌, ℕ, List, Bool, true, false, Option, Some, None}
use Rattle.std.specs.Prelude.{if◌then◌else◌}
use Rattle.osm_model.specs.Change.{ChangeValue}
use Rattle.osm_model.specs.KeyOrder.{same_key}
use Rattle.osm_model.specs.declared.kind.Key.{Key}
use Rattle.osm_reading.specs.Writing.{AppendsPart}
use Rattle.osm_asking.specs.Getting.{answer_text}
use Rattle.osm_asking.specs.Referring.{also, refers_to}
use Rattle.osm_asking.specs.declared.ask_fault.AskFault.{AskFault}
use Rattle.osm_asking.specs.declared.ask_fault.AskFault.TheVariants.{NotWritten, WantOfMemory}
use Rattle.osm_asking.specs.declared.get.Form.{Form}

-- what is known of a key once that one was asked for
abbrev pub asked_after : Key → Key → Option Bool → Option Bool
asked_after key k before = if same_key key k then Some false else before

-- and once its object was printed; nothing changes if references aren't noted
abbrev pub noted_after : Bool → Key → Option ChangeValue → Key → Option Bool → Option Bool
noted_after false key answer k before = before
noted_after true key None k before = asked_after key k before
noted_after true key (Some c) k before = also (refers_to c.what k) (asked_after key k before)

-- why the object isn't printed, and what was printed of it
abbrev pub PutStops : Form → Option ChangeValue → Option (List ℕ) → Option (List ℕ) → AskFault
    → Type 0
PutStops form answer printed after NotWritten = AppendsPart printed after (answer_text form answer)
PutStops form answer printed after WantOfMemory = after ≡ printed
PutStops form answer printed after fault = ⊥
