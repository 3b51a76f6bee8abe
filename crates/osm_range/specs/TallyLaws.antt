-- Laws of tallies, which hold whatever the code does.
use Rattle.std.specs.Prelude.{◌≡◌, ℕ, ◌+◌, List, [], ◌++◌, length, map, sum, unwrap_or}
use Rattle.std.specs.BTreeMap.{is_at}
use Rattle.std.specs.Map.{lookup}
use Rattle.osm_model.specs.Change.{ChangeValue}
use Rattle.osm_store.specs.Files.{Files}
use Rattle.osm_range.specs.declared.range.Range.{Range}
use Rattle.osm_range.specs.declared.range.Reached.{Reached}
use Rattle.osm_runs.specs.declared.options.Layout.{Layout}
use Rattle.osm_range.specs.Columns.{Combination, IsChoice, columns_text, combination_cmp}
use Rattle.osm_range.specs.Runs.{IsTallied}
use Rattle.osm_range.specs.Tally.{AreRows, Row, counted}
use Rattle.osm_range.specs.declared.columns.Columns.{Columns}
use Rattle.osm_range.specs.declared.counted.Counted.{Counted}

-- a word is that of one choice of columns
abbrev pub OneChoice : Type 0
OneChoice = (a b : Columns) → IsChoice a → IsChoice b → columns_text a ≡ columns_text b → a ≡ b

-- changes have one list of rows
abbrev pub AreTheOnly : Type 0
AreTheOnly = (columns : Columns) (changes : List ChangeValue) (a b : List Row)
    → AreRows columns changes a → AreRows columns changes b → a ≡ b

-- how many changes a row counts
abbrev pub changes_counted : Row → ℕ
changes_counted row = row.1.created + row.1.modified + row.1.deleted

-- all rows together count each change once
abbrev pub CountAll : Type 0
CountAll = (columns : Columns) (changes : List ChangeValue) (rows : List Row)
    → AreRows columns changes rows → sum (map changes_counted rows) ≡ length changes

-- what rows count at a combination: nothing if it has no row
abbrev pub counted_at : List Row → Combination → Counted
counted_at rows k = unwrap_or (lookup (is_at (combination_cmp k)) rows) (counted [])

-- what is counted of both, but for changesets, which both may have
pub record AddsUp (one other both : Counted) : Type 0 where
  pub created : both.created ≡ one.created + other.created
  pub modified : both.modified ≡ one.modified + other.modified
  pub deleted : both.deleted ≡ one.deleted + other.deleted

-- at each combination the rows of some changes and those of the changes after them add up
abbrev pub AddUp : Type 0
AddUp = (columns : Columns) (one other : List ChangeValue) (first second all : List Row)
    → AreRows columns one first → AreRows columns other second
    → AreRows columns (one ++ other) all
    → (k : Combination) → AddsUp (counted_at first k) (counted_at second k) (counted_at all k)

-- over one folder, the tally of a range as far as it was read and that of the numbers after it add
-- up to the tally of both together
abbrev pub RangesAddUp : Type 0
RangesAddUp = (files : Files) (dir : List ℕ) (one other both : Range) (layout : Layout)
    (columns : Columns) (t u v : List ℕ) (r s w : Reached)
    (first : IsTallied (Unit {0}) files dir one layout columns t r)
    (second : IsTallied (Unit {0}) files dir other layout columns u s)
    (all : IsTallied (Unit {0}) files dir both layout columns v w)
    → one.from ≡ both.from → other.from ≡ r.number + 1 → w.number ≡ s.number
    → (k : Combination) → AddsUp (counted_at first.table.rows k) (counted_at second.table.rows k)
    (counted_at all.table.rows k)
