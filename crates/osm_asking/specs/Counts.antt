-- The counts of edits that a mirror keeps, as they are asked for and written.
use Rattle.std.specs.Prelude.{◌≡◌, ℕ, ◌+◌, ◌-◌, ◌*◌, List, [], ◌∷◌, ◌++◌, map, take, codes, decimal}
use Rattle.std.specs.Prelude.{◌==◌, Option, if◌then◌else◌}
use Rattle.std.specs.List.{flat_map}
use Rattle.std.specs.List.Sorted.{IsNonDecreasingBy, IsPermutation}
use Rattle.osm_kept.specs.Kept.{Keeps}
use Rattle.osm_mirror.specs.Mirror.{Counted, MirrorValue}
use Rattle.osm_reading.specs.NumberLines.{count_line}
use Rattle.osm_runs.specs.Csv.{csv_line}
use Rattle.osm_runs.specs.Reports.{ReportValue}
use Rattle.osm_save.specs.declared.save.Saved.{Saved}
use Rattle.osm_asking.specs.declared.choice.By.{By}
use Rattle.osm_asking.specs.declared.choice.By.TheVariants.{Changeset, User}
use Rattle.osm_asking.specs.declared.choice.Choice.{Choice}
use Rattle.osm_asking.specs.declared.choice.Choice.TheVariants.{All, Ids, Top}
use Rattle.osm_asking.specs.declared.choice.Form.{Form}
use Rattle.osm_asking.specs.declared.choice.Form.TheVariants.{Csv, Json, Lines}

-- the counts of a mirror
abbrev pub counts_by : By → MirrorValue → List Counted
counts_by User m = m.users
counts_by Changeset m = m.changesets

-- where a count stands among others: it is lower if the count is larger, and of equal counts if the
-- number is smaller. A count has 64 bits at most, and a number 32
abbrev pub place_of : Counted → ℕ
place_of e = (18446744073709551615 - e.1) * 4294967296 + e.0

-- so many of the counts, the largest ones: the first of all, once these stand in that order
pub record AreLargest (most : ℕ) (counts given : List Counted) : Type 0 where
  pub ordered : List Counted
  pub same : IsPermutation counts ordered
  pub falls : IsNonDecreasingBy place_of ordered
  pub given_are : given ≡ take most ordered

-- the count of a number: 0 if it has none
abbrev pub count_in : List Counted → ℕ → ℕ
count_in [] n = 0
count_in (e ∷ counts) n = if e.0 == n then e.1 else count_in counts n

-- those of the counts that are asked for
abbrev pub AreChosen : Choice → List Counted → List Counted → Type 0
AreChosen All counts given = given ≡ counts
AreChosen (Top most) counts given = AreLargest most counts given
AreChosen (Ids ids) counts given = given ≡ map (λ id. (id, count_in counts id)) ids.now

-- `user` or `changeset`
abbrev pub name_of : By → List ℕ
name_of User = codes "user"
name_of Changeset = codes "changeset"

-- `ID,COUNT` and LF
abbrev pub row_line : Counted → List ℕ
row_line e = csv_line (decimal e.0 ∷ decimal e.1 ∷ [])

-- a head row, `user,count` or `changeset,count`, and a row for each count
abbrev pub csv_text : By → List Counted → List ℕ
csv_text by counts = csv_line (name_of by ∷ codes "count" ∷ []) ++ flat_map row_line counts

-- `{"id":ID,"count":COUNT}`
abbrev pub object_text : Counted → List ℕ
object_text e = codes "{\"id\":" ++ decimal e.0 ++ codes ",\"count\":" ++ decimal e.1 ++ codes "}"

-- the same of each, with commas between them
abbrev pub more_objects : List Counted → List ℕ
more_objects counts = flat_map (λ e. 44 ∷ object_text e) counts

abbrev pub objects_text : List Counted → List ℕ
objects_text [] = []
objects_text (e ∷ counts) = object_text e ++ more_objects counts

-- counts as they are written
abbrev pub counts_text : By → Form → List Counted → List ℕ
counts_text by Lines counts = flat_map count_line counts
counts_text by Csv counts = csv_text by counts
counts_text by Json counts =
    codes "{\"by\":\"" ++ name_of by ++ codes "\",\"counts\":[" ++ objects_text counts
    ++ codes "]}\n"

-- the report has those of these counts that are asked for
pub record IsCountsReport (by : By) (choice : Choice) (form : Form) (counts : List Counted)
    (report : ReportValue) : Type 0 where
  pub given : List Counted
  pub chosen : AreChosen choice counts given
  pub report_is : report ≡ record { status = 0; text = counts_text by form given }

-- that is so of some counts
abbrev pub IsReportOfCounts : By → Choice → Form → ReportValue → Type 0
IsReportOfCounts by choice form report =
    (counts : List Counted) × IsCountsReport by choice form counts report

-- that is so of what the two files keep, if they keep something
abbrev pub GivesCounts : By → Choice → Form → Option (List ℕ) → Option (List ℕ) → ReportValue
    → Type 0
GivesCounts by choice form told journal report =
    (v : Saved) → Keeps told journal v
    → IsCountsReport by choice form (counts_by by v.mirror) report
