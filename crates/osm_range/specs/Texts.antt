-- What a tally prints: CSV (RFC 4180), or an object of JSON (RFC 8259) a line. Each line ends with
-- LF.
use Rattle.std.specs.Prelude.{ℕ, zero, suc, ◌==◌, List, [], ◌∷◌, ◌++◌, Option, Some, None, codes}
use Rattle.std.specs.Prelude.{decimal, if◌then◌else◌, take, unwrap_or}
use Rattle.std.specs.List.{flat_map}
use Rattle.serde_json.specs.Data.{string}
use Rattle.serde_json.specs.Written.{compact_text}
use Rattle.osm_model.specs.Change.{ChangeValue}
use Rattle.osm_model.specs.CivilTime.{time_text}
use Rattle.osm_runs.specs.Csv.{csv_line}
use Rattle.osm_range.specs.Tally.{Row, last_name}
use Rattle.osm_range.specs.declared.columns.Column.{Column}
use Rattle.osm_range.specs.declared.columns.Column.TheVariants.{Day, User, Changeset, Kind}
use Rattle.osm_range.specs.declared.columns.Columns.{Columns}
use Rattle.osm_range.specs.declared.counted.Counted.{Counted}

-- the name of a user, by the user's number
abbrev pub Names : Type 0
Names = ℕ → List ℕ

-- 2147483647 is nobody, whatever name is there (docs/DECISIONS.md)
abbrev pub named : ℕ → Option (List ℕ) → List ℕ
named uid name = if uid == 2147483647 then codes "anonymous" else unwrap_or name []

-- the last names in a list of changes
abbrev pub names_of : List ChangeValue → Names
names_of changes uid = named uid (last_name changes uid)

-- YYYY-MM-DD of the day that begins so many seconds after 1970-01-01T00:00:00Z
abbrev pub day_text : ℕ → List ℕ
day_text seconds = take 10 (time_text seconds)

-- n, w or r
abbrev pub kind_letter : ℕ → ℕ
kind_letter zero = 110
kind_letter (suc zero) = 119
kind_letter (suc (suc n)) = 114

-- the names of a column in the head row
abbrev pub csv_names : Option Column → List (List ℕ)
csv_names None = []
csv_names (Some Day) = codes "day" ∷ []
csv_names (Some User) = codes "uid" ∷ codes "user" ∷ []
csv_names (Some Changeset) = codes "changeset" ∷ []
csv_names (Some Kind) = codes "kind" ∷ []

-- the names of the counts
abbrev pub count_names : List (List ℕ)
count_names =
    codes "created" ∷ codes "modified" ∷ codes "deleted" ∷ codes "changesets" ∷ []

-- the fields of the head row
abbrev pub csv_head : Columns → List (List ℕ)
csv_head columns =
    csv_names columns.first ++ (csv_names columns.second ++ (csv_names columns.third
    ++ (csv_names columns.fourth ++ count_names)))

-- the fields that a row has in a column
abbrev pub csv_cell : Names → Option Column → ℕ → List (List ℕ)
csv_cell names None n = []
csv_cell names (Some Day) n = day_text n ∷ []
csv_cell names (Some User) n = decimal n ∷ names n ∷ []
csv_cell names (Some Changeset) n = decimal n ∷ []
csv_cell names (Some Kind) n = (kind_letter n ∷ []) ∷ []

abbrev pub csv_counts : Counted → List (List ℕ)
csv_counts counted =
    decimal counted.created ∷ decimal counted.modified ∷ decimal counted.deleted
    ∷ decimal counted.changesets ∷ []

-- the fields of a row
abbrev pub csv_row : Columns → Names → Row → List (List ℕ)
csv_row columns names row =
    csv_cell names columns.first row.0.0 ++ (csv_cell names columns.second row.0.1
    ++ (csv_cell names columns.third row.0.2 ++ (csv_cell names columns.fourth row.0.3
    ++ csv_counts row.1)))

-- the head row, and each row
abbrev pub csv_text : Columns → Names → List Row → List ℕ
csv_text columns names rows =
    csv_line (csv_head columns) ++ flat_map (λ row. csv_line (csv_row columns names row)) rows

-- the members of a column, each followed by a comma
abbrev pub json_cell : Names → Option Column → ℕ → List ℕ
json_cell names None n = []
json_cell names (Some Day) n = codes "\"day\":\"" ++ (day_text n ++ codes "\",")
json_cell names (Some User) n =
    codes "\"uid\":" ++ (decimal n ++ (codes ",\"user\":"
    ++ (compact_text (string (names n)) ++ codes ",")))
json_cell names (Some Changeset) n = codes "\"changeset\":" ++ (decimal n ++ codes ",")
json_cell names (Some Kind) n = codes "\"kind\":\"" ++ (kind_letter n ∷ codes "\",")

-- the name of a member and a number
abbrev pub number_after : List ℕ → ℕ → List ℕ
number_after name n = name ++ decimal n

abbrev pub json_counts : Counted → List ℕ
json_counts counted =
    number_after (codes "\"created\":") counted.created
    ++ (number_after (codes ",\"modified\":") counted.modified
    ++ (number_after (codes ",\"deleted\":") counted.deleted
    ++ (number_after (codes ",\"changesets\":") counted.changesets ++ codes "}\n")))

abbrev pub json_line : Columns → Names → Row → List ℕ
json_line columns names row =
    codes "{" ++ (json_cell names columns.first row.0.0
    ++ (json_cell names columns.second row.0.1 ++ (json_cell names columns.third row.0.2
    ++ (json_cell names columns.fourth row.0.3 ++ json_counts row.1))))

-- a line for each row
abbrev pub json_text : Columns → Names → List Row → List ℕ
json_text columns names rows = flat_map (json_line columns names) rows
