-- How a line of a file is passed.
use Rattle.std.specs.Prelude.{◌≡◌, ℕ, ◌+◌, ◌<◌, ◌≤◌, ◌==◌, Bool, true, false, List, take, length}
use Rattle.std.specs.Prelude.{None, drop}
use Rattle.osm_model.specs.Change.{ChangeValue}
use Rattle.osm_reading.specs.Lines.{lines_of, without_cr}
use Rattle.osm_reading.specs.Pieces.{cut_at}
use Rattle.osm_blocks.specs.Places.{Place, past}
use Rattle.osm_data.specs.OplReading.{HasPassed}
use Rattle.osm_data.specs.Steps.OplObjects.{Adds}
use Rattle.osm_data.specs.declared.opl_data.OplData.{OplData}

-- before the first line of a file; nothing is left of an empty one
pub record Begins (place : Place) (reader : OplData) : Type 0 where
  pub same : reader.reader ≡ place
  pub bytes : reader.so_far.bytes ≡ 0
  pub lines : reader.so_far.lines ≡ 0
  pub last : reader.so_far.last ≡ None
  pub ended : reader.is_ended ≡ (length place.unread == 0)

-- the next line, without its line end, if it has so many bytes before its LF
abbrev pub line_of : ℕ → OplData → List ℕ
line_of count reader = without_cr (take count reader.reader.unread)

-- that line was passed with its LF
pub record PassesLine (count : ℕ) (old new : OplData) (before after : List ChangeValue)
    : Type 0 where
  pub adds : Adds (line_of count old) (count + 1) old.so_far new.so_far before after
  pub passed : new.reader ≡ past (count + 1) old.reader
  pub open_still : new.is_ended ≡ old.is_ended

-- whether a line was passed; if none was, nothing is left, and nothing was added
abbrev pub Goes : Bool → OplData → OplData → List ChangeValue → List ChangeValue → Type 0
Goes true old new before after =
    (old.so_far.bytes < new.so_far.bytes) × (new.so_far.bytes ≤ 18446744073709551615)
Goes false old new before after =
    (new.is_ended ≡ true) × (new.so_far ≡ old.so_far) × (after ≡ before)

-- what follows the last LF is next, and all of it was read
pub record IsLast (reader : OplData) (file : List ℕ) (objects : List ChangeValue) : Type 0 where
  pub within : reader.so_far.bytes ≤ length file
  pub rest : reader.reader.unread ≡ drop reader.so_far.bytes file
  pub uncut : cut_at 10 reader.reader.unread ≡ None
  pub passed : HasPassed file (lines_of reader.reader.unread) objects reader.so_far
