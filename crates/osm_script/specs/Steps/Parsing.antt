-- What the reader of scripts answers line by line.
use Rattle.std.specs.Prelude.{◌≡◌, ℕ, List, ◌++◌, Option, Some, None, true, false}
use Rattle.osm_model.specs.Time.{TimeText}
use Rattle.osm_opl.specs.Line.{SpellsLine}
use Rattle.osm_reading.specs.Lines.{is_skipped}
use Rattle.osm_reading.specs.Sequence.{SpellsSequence}
use Rattle.osm_script.specs.Script.{IsEventLine, ScriptOf, form_text}
use Rattle.osm_world.specs.declared.event.Event.{Event}
use Rattle.osm_world.specs.declared.event.Event.TheVariants.{Edit, Close, Deliver, Begin}
use Rattle.osm_world.specs.declared.event.Form.{Form}
use Rattle.osm_script.specs.declared.fault.ScriptFault.{ScriptFault}
use Rattle.osm_script.specs.declared.fault.ScriptFault.TheVariants as faults
use Rattle.osm_script.specs.declared.script.LineFault.{LineFault}
use Rattle.osm_script.specs.declared.script.LineFault.TheVariants.{WantOfMemory, NoEvent}

-- what follows `edit ` is the event
abbrev pub IsEditOf : List ℕ → Event → Type 0
IsEditOf object (Edit change) = SpellsLine object change
IsEditOf object e = ⊥

-- what follows `close ` is the event
abbrev pub IsCloseOf : List ℕ → Event → Type 0
IsCloseOf text (Close time) = TimeText text time
IsCloseOf text e = ⊥

-- the digits of a sequence and the name of a form
pub record AreWords (words : List ℕ) (number : ℕ) (form : Form) : Type 0 where
  pub digits : List ℕ
  pub parts : words ≡ digits ++ form_text form
  pub spelled : SpellsSequence digits number

-- what follows `deliver ` is the event
abbrev pub IsDeliverOf : List ℕ → Event → Type 0
IsDeliverOf words (Deliver number form) = AreWords words number form
IsDeliverOf words e = ⊥

-- what follows `begin ` is the event
abbrev pub IsBeginOf : List ℕ → Event → Type 0
IsBeginOf digits (Begin number) = SpellsSequence digits number
IsBeginOf digits e = ⊥

-- a line is refused as no event only if it is no event
abbrev pub EventStops : (Event → Type 0) → LineFault → Type 0
EventStops IsIt WantOfMemory = Unit {0}
EventStops IsIt NoEvent = (e : Event) → IsIt e → ⊥

-- a line is skipped, or is that event
abbrev pub IsTakenAs : List ℕ → Option Event → Type 0
IsTakenAs line None = is_skipped line ≡ true
IsTakenAs line (Some event) = (is_skipped line ≡ false) × IsEventLine line event

-- a line that isn't skipped is no event, or memory was refused
abbrev pub LineStops : List ℕ → ℕ → ScriptFault → Type 0
LineStops line number faults.WantOfMemory = is_skipped line ≡ false
LineStops line number (faults.BadScript n) =
    (n ≡ number) × (is_skipped line ≡ false) × ((e : Event) → IsEventLine line e → ⊥)
LineStops line number fault = ⊥

-- the events of the script were all taken
abbrev pub AllAreTaken : (List Event → Type 0) → List ℕ → Type 0
AllAreTaken took script = (events : List Event) × ScriptOf script events × took events
