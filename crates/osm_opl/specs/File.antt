-- An OPL file: the changes of a batch, or the objects of a data file, one line each.
use Rattle.std.specs.Prelude.{◌≡◌, ℕ, ◌+◌, true, false, List, [], ◌∷◌, ◌++◌, length}
use Rattle.osm_model.specs.Batch.{IsBatch}
use Rattle.osm_model.specs.Change.{ChangeValue}
use Rattle.osm_model.specs.Data.{IsData}
use Rattle.osm_opl.specs.Line.{SpellsLine}
use Rattle.osm_reading.specs.Lines.{lines_of, is_skipped}

-- the lines that aren't skipped spell the changes, one by one
pub data SpellsLines : List (List ℕ) → List ChangeValue → Type 0 where
  none : SpellsLines [] []
  skipped : (line : List ℕ) (lines : List (List ℕ)) (changes : List ChangeValue)
      → is_skipped line ≡ true → SpellsLines lines changes → SpellsLines (line ∷ lines) changes
  change : (line : List ℕ) (lines : List (List ℕ)) (c : ChangeValue) (changes : List ChangeValue)
      → is_skipped line ≡ false → SpellsLine line c → SpellsLines lines changes
      → SpellsLines (line ∷ lines) (c ∷ changes)

-- the lines of the bytes spell changes within the limits of their file
pub record SpellsFile (Limits : List ChangeValue → Type 0) (bytes : List ℕ)
    (changes : List ChangeValue) : Type 0 where
  pub lines : SpellsLines (lines_of bytes) changes
  pub limits : Limits changes

-- the number, counted from 1, of the first line that isn't skipped and spells no change with which
-- those of the lines before it are still within the limits
pub record FaultIn (Limits : List ChangeValue → Type 0) (bytes : List ℕ) (place : ℕ) : Type 0 where
  pub before : List (List ℕ)
  pub line : List ℕ
  pub after : List (List ℕ)
  pub changes : List ChangeValue
  pub parts : lines_of bytes ≡ before ++ line ∷ after
  pub number : place ≡ length before + 1
  pub spelled : SpellsLines before changes
  pub right : Limits changes
  pub counts : is_skipped line ≡ false
  pub fault : (c : ChangeValue) → SpellsLine line c → Limits (changes ++ c ∷ []) → ⊥

-- a change file: the lines spell the changes of a batch
abbrev pub SpellsOpl : List ℕ → List ChangeValue → Type 0
SpellsOpl = SpellsFile IsBatch

-- the first line of a change file that spells no change, or one change too many
abbrev pub FaultLine : List ℕ → ℕ → Type 0
FaultLine = FaultIn IsBatch

-- a data file: the lines spell objects that aren't deleted, by rising keys
abbrev pub SpellsData : List ℕ → List ChangeValue → Type 0
SpellsData = SpellsFile IsData

-- the first line of a data file that spells no change, a deletion, or a key that isn't above those
-- before it
abbrev pub DataFaultLine : List ℕ → ℕ → Type 0
DataFaultLine = FaultIn IsData
