-- The lines of a show text.
use Rattle.std.specs.Prelude.{ℕ, List, [], ◌∷◌, ◌++◌, ◌==◌, length, codes, Option, Some, None}
use Rattle.std.specs.Prelude.{if◌then◌else◌}
use Rattle.std.specs.List.{flat_map}
use Rattle.osm_model.specs.Change.{ChangeValue}
use Rattle.osm_model.specs.CivilTime.{time_text}
use Rattle.osm_opl.specs.Written.{line_text}
use Rattle.osm_mirror.specs.Mirror.{Counted}
use Rattle.osm_reading.specs.NumberLines.{count_line, number_line, numbered_line}

-- `time none`, or `time` and the time, and LF
abbrev pub time_line : Option ℕ → List ℕ
time_line None = codes "time none\n"
time_line (Some time) = codes "time " ++ time_text time ++ 10 ∷ []

-- `base N` and LF; nothing if the base is 0
abbrev pub base_line : ℕ → List ℕ
base_line base = if base == 0 then [] else numbered_line (codes "base ") base

-- an object's line as in an OPL file
abbrev pub object_line : ChangeValue → List ℕ
object_line change = line_text change ++ 10 ∷ []

-- the number of objects, and their lines
unfoldable pub objects_text : List ChangeValue → List ℕ
objects_text objects =
    numbered_line (codes "objects ") (length objects) ++ flat_map object_line objects

-- the number of counts, and their lines
unfoldable pub counts_text : List ℕ → List Counted → List ℕ
counts_text name counts = numbered_line name (length counts) ++ flat_map count_line counts

-- the number of held numbers, and their lines
unfoldable pub held_text : List ℕ → List ℕ
held_text numbers = numbered_line (codes "held ") (length numbers) ++ flat_map number_line numbers
