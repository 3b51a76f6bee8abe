-- How far a data file in the form OPL was read.
use Rattle.std.specs.Prelude.{◌≡◌, ℕ, ◌<◌, ◌≤◌, Bool, true, false, List, [], ◌∷◌, ◌++◌}
use Rattle.std.specs.Prelude.{drop, length, Option, None, Some}
use Rattle.osm_model.specs.Change.{ChangeValue}
use Rattle.osm_model.specs.Data.{IsData}
use Rattle.osm_model.specs.declared.kind.Key.{Key}
use Rattle.osm_reading.specs.Lines.{lines_of}
use Rattle.osm_blocks.specs.Calls.{reads_ahead}
use Rattle.osm_blocks.specs.Places.{left_of}
use Rattle.osm_opl.specs.File.{SpellsData, SpellsLines}
use Rattle.osm_data.specs.declared.opl_data.OplData.{OplData}
use Rattle.osm_data.specs.declared.opl_so_far.SoFar.{SoFar}

-- the most bytes of a line, without its line end: 64 MiB
abbrev pub max_line : ℕ
max_line = 67108864

-- after lines that spell data there is a line of more than 64 MiB, without its line end
pub record HasLongLine (bytes : List ℕ) : Type 0 where
  pub before : List (List ℕ)
  pub line : List ℕ
  pub after : List (List ℕ)
  pub objects : List ChangeValue
  pub parts : lines_of bytes ≡ before ++ line ∷ after
  pub spelled : SpellsLines before objects
  pub right : IsData objects
  pub long : max_line < length line

-- the key of the last object, if there is one
abbrev pub last_key : List ChangeValue → Option Key
last_key [] = None
last_key (object ∷ []) = Some object.key
last_key (object ∷ next ∷ objects) = last_key (next ∷ objects)

-- the lines before those that are left were passed, and spell the objects
pub record HasPassed (file : List ℕ) (left : List (List ℕ)) (objects : List ChangeValue)
    (so_far : SoFar) : Type 0 where
  pub before : List (List ℕ)
  pub parts : lines_of file ≡ before ++ left
  pub number : so_far.lines ≡ length before
  pub few : so_far.lines ≤ so_far.bytes
  pub spelled : SpellsLines before objects
  pub right : IsData objects
  pub last : so_far.last ≡ last_key objects

-- what is left of the file begins with a line
pub record Stands (reader : OplData) (file : List ℕ) (objects : List ChangeValue) : Type 0 where
  pub left : left_of reader.reader file ≡ drop reader.so_far.bytes file
  pub passed : HasPassed file (lines_of (drop reader.so_far.bytes file)) objects reader.so_far

-- all of the file was read, or a line is next
abbrev pub EndsOrStands : Bool → OplData → List ℕ → List ChangeValue → Type 0
EndsOrStands true reader file objects = SpellsData file objects
EndsOrStands false reader file objects = Stands reader file objects

-- so far, those objects of the file were read
pub record HasRead (reader : OplData) (file : List ℕ) (objects : List ChangeValue) : Type 0 where
  pub within : reader.so_far.bytes ≤ length file
  pub reads : EndsOrStands reader.is_ended reader file objects

-- the bytes of the file that weren't passed yet
abbrev pub bytes_after : OplData → List ℕ → ℕ
bytes_after reader file = length (drop reader.so_far.bytes file)

-- the calls that are ahead at most: those that find the lines
abbrev pub calls_before_end : Bool → OplData → List ℕ → ℕ
calls_before_end true reader file = 0
calls_before_end false reader file = reads_ahead reader.reader file

abbrev pub calls_after : OplData → List ℕ → ℕ
calls_after reader file = calls_before_end reader.is_ended reader file
