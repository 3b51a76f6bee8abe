-- What one line does to the objects read so far.
use Rattle.std.specs.Prelude.{◌≡◌, ℕ, ◌+◌, ◌<◌, ◌≤◌, true, false, List, [], ◌∷◌, ◌++◌, length}
use Rattle.std.specs.Prelude.{Option, None, Some}
use Rattle.osm_model.specs.Change.{ChangeValue}
use Rattle.osm_model.specs.Data.{IsData, IsNext}
use Rattle.osm_model.specs.declared.kind.Key.{Key}
use Rattle.osm_reading.specs.Lines.{is_skipped}
use Rattle.osm_opl.specs.Line.{SpellsLine}
use Rattle.osm_data.specs.declared.fault.DataFault.{DataFault}
use Rattle.osm_data.specs.declared.fault.DataFault.TheVariants.{Device, WantOfMemory, NoFile}
use Rattle.osm_data.specs.declared.fault.DataFault.TheVariants.{BadData, LongPart, TooLarge}
use Rattle.osm_data.specs.OplReading.{last_key, max_line}
use Rattle.osm_data.specs.declared.opl_so_far.SoFar.{SoFar}

-- nothing is left, or something was read
abbrev pub EndsOrReads : {T : Type 0} → Type 0 → (T → Type 0) → Option T → Type 0
EndsOrReads ends reads None = ends
EndsOrReads ends reads (Some x) = reads x

-- an object may follow data of which the last has that key
abbrev pub MayFollow : Option Key → ChangeValue → Type 0
MayFollow last c = (objects : List ChangeValue) → IsData objects → last ≡ last_key objects
    → IsNext objects c

-- it may not follow them
abbrev pub NeverFollows : Option Key → ChangeValue → Type 0
NeverFollows last c = (objects : List ChangeValue) → IsData objects → last ≡ last_key objects
    → IsNext objects c → ⊥

-- a line is skipped, or spells an object that may follow
abbrev pub GivesObject : List ℕ → Option Key → Option ChangeValue → Type 0
GivesObject line last None = is_skipped line ≡ true
GivesObject line last (Some c) =
    (is_skipped line ≡ false) × SpellsLine line c × MayFollow last c

-- why a line gives no object: it is too long, or it isn't skipped and spells no object that may
-- follow
abbrev pub LineStops : List ℕ → ℕ → Option Key → DataFault → Type 0
LineStops line number last Device = ⊥
LineStops line number last WantOfMemory = Unit {0}
LineStops line number last NoFile = ⊥
LineStops line number last (BadData place why) =
    (place ≡ number) × (is_skipped line ≡ false)
    × ((c : ChangeValue) → SpellsLine line c → NeverFollows last c)
LineStops line number last LongPart = max_line < length line
LineStops line number last TooLarge = ⊥

-- an object was added, if there is one, and its key is the last one
abbrev pub Keeps : Option ChangeValue → Option Key → Option Key → List ChangeValue
    → List ChangeValue → Type 0
Keeps None last new before after = (new ≡ last) × (after ≡ before)
Keeps (Some c) last new before after = (new ≡ Some c.key) × (after ≡ before ++ c ∷ [])

-- a line that is so many bytes of the file was passed, and its object added, unless it is skipped
pub record Adds (line : List ℕ) (count : ℕ) (old new : SoFar) (before after : List ChangeValue)
    : Type 0 where
  pub bytes : new.bytes ≡ old.bytes + count
  pub fits : new.bytes ≤ 18446744073709551615
  pub lines : new.lines ≡ old.lines + 1
  pub object : Option ChangeValue
  pub gives : GivesObject line old.last object
  pub keeps : Keeps object old.last new.last before after

-- why a line isn't passed
abbrev pub AddStops : List ℕ → ℕ → SoFar → DataFault → Type 0
AddStops line count old TooLarge =
    old.lines ≤ old.bytes → 18446744073709551615 < old.bytes + count
AddStops line count old fault = LineStops line (old.lines + 1) old.last fault
