-- A script: a text whose lines are events. Empty lines and lines that begin with `#` are skipped.
use Rattle.std.specs.Prelude.{◌≡◌, ℕ, ◌+◌, ◌<◌, List, ◌∷◌, ◌++◌, length, codes, false, not}
use Rattle.std.specs.List.{AllZip, filter}
use Rattle.osm_model.specs.Change.{ChangeValue}
use Rattle.osm_model.specs.Time.{TimeText}
use Rattle.osm_opl.specs.Line.{SpellsLine}
use Rattle.osm_reading.specs.Lines.{lines_of, is_skipped}
use Rattle.osm_reading.specs.Sequence.{SpellsSequence}
use Rattle.osm_world.specs.declared.event.Event.{Event}
use Rattle.osm_world.specs.declared.event.Event.TheVariants.{Edit, Close, Deliver, Show}
use Rattle.osm_world.specs.declared.event.Event.TheVariants.{Save, Restart, Begin}
use Rattle.osm_world.specs.declared.event.Form.{Form}
use Rattle.osm_world.specs.declared.event.Form.TheVariants.{Opl, O5c}
use Rattle.osm_script.specs.declared.fault.ScriptFault.{ScriptFault}
use Rattle.osm_script.specs.declared.fault.ScriptFault.TheVariants.{WantOfMemory, BadScript}

-- a blank and the name of a form
abbrev pub form_text : Form → List ℕ
form_text Opl = codes " opl"
form_text O5c = codes " o5c"

-- `edit LINE`, with a line of an OPL file
pub record IsEdit (line : List ℕ) (change : ChangeValue) : Type 0 where
  pub object : List ℕ
  pub parts : line ≡ codes "edit " ++ object
  pub spelled : SpellsLine object change

-- `close TIME`
pub record IsClose (line : List ℕ) (time : ℕ) : Type 0 where
  pub text : List ℕ
  pub parts : line ≡ codes "close " ++ text
  pub spelled : TimeText text time

-- `deliver N FORM`
pub record IsDeliver (line : List ℕ) (number : ℕ) (form : Form) : Type 0 where
  pub digits : List ℕ
  pub parts : line ≡ codes "deliver " ++ (digits ++ form_text form)
  pub spelled : SpellsSequence digits number

-- `begin N`
pub record IsBegin (line : List ℕ) (number : ℕ) : Type 0 where
  pub digits : List ℕ
  pub parts : line ≡ codes "begin " ++ digits
  pub spelled : SpellsSequence digits number

-- the line is the event
abbrev pub IsEventLine : List ℕ → Event → Type 0
IsEventLine line (Edit change) = IsEdit line change
IsEventLine line (Close time) = IsClose line time
IsEventLine line (Deliver number form) = IsDeliver line number form
IsEventLine line Show = line ≡ codes "show"
IsEventLine line Save = line ≡ codes "save"
IsEventLine line Restart = line ≡ codes "restart"
IsEventLine line (Begin number) = IsBegin line number

-- the lines that aren't skipped
abbrev pub unskipped : List (List ℕ) → List (List ℕ)
unskipped lines = filter (λ line. not (is_skipped line)) lines

-- those lines are the events, one by one
abbrev pub AreEvents : List (List ℕ) → List Event → Type 0
AreEvents lines events = AllZip IsEventLine (unskipped lines) events

-- the text is a script of those events
abbrev pub ScriptOf : List ℕ → List Event → Type 0
ScriptOf script events = AreEvents (lines_of script) events

-- a text with a line that isn't skipped
abbrev pub HasUnskipped : List ℕ → Type 0
HasUnskipped script = 0 < length (unskipped (lines_of script))

-- the line of that number, counted from 1 over all lines, is the first that is neither skipped nor
-- an event
pub record IsBadLine (script : List ℕ) (number : ℕ) : Type 0 where
  pub before : List (List ℕ)
  pub line : List ℕ
  pub after : List (List ℕ)
  pub parts : lines_of script ≡ before ++ line ∷ after
  pub counted : number ≡ length before + 1
  pub events : List Event
  pub earlier : AreEvents before events
  pub said : is_skipped line ≡ false
  pub none : (e : Event) → IsEventLine line e → ⊥

-- a script with a line that isn't skipped may be refused for memory, and any script at its first
-- line that is no event
abbrev pub ScriptStops : List ℕ → ScriptFault → Type 0
ScriptStops script WantOfMemory = HasUnskipped script
ScriptStops script (BadScript line) = IsBadLine script line
ScriptStops script fault = ⊥
