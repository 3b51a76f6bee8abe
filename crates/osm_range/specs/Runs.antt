-- A tally of a range of numbers of a folder.
use Rattle.std.specs.Prelude.{◌≡◌, ℕ, List}
use Rattle.osm_model.specs.Change.{ChangeValue}
use Rattle.osm_publisher.specs.Published.{PublishedValue}
use Rattle.osm_store.specs.Files.{Files}
use Rattle.osm_range.specs.Ranges.{IsRead, changes_in}
use Rattle.osm_range.specs.declared.range.Range.{Range}
use Rattle.osm_range.specs.declared.range.Reached.{Reached}
use Rattle.osm_runs.specs.declared.options.Layout.{Layout}
use Rattle.osm_runs.specs.declared.options.Layout.TheVariants.{Json, Lines}
use Rattle.osm_range.specs.Tally.{AreRows, Row}
use Rattle.osm_range.specs.Texts.{Names, csv_text, json_text, names_of}
use Rattle.osm_range.specs.declared.columns.Columns.{Columns}

-- the rows in that layout
abbrev pub table_text : Layout → Columns → Names → List Row → List ℕ
table_text Lines columns names rows = csv_text columns names rows
table_text Json columns names rows = json_text columns names rows

-- the text has the rows of the changes, with the last name of each user
pub record IsTable (layout : Layout) (columns : Columns) (changes : List ChangeValue)
    (text : List ℕ) : Type 0 where
  pub rows : List Row
  pub are : AreRows columns changes rows
  pub text_is : text ≡ table_text layout columns (names_of changes) rows

-- the range was read as far as was reached, and the text has the rows of all changes of the numbers
-- that were read
pub record IsTallied (known : Type 0) (files : Files) (dir : List ℕ) (range : Range)
    (layout : Layout) (columns : Columns) (text : List ℕ) (reached : Reached) : Type 0 where
  pub sequences : List PublishedValue
  pub read : IsRead known files dir range sequences reached
  pub table : IsTable layout columns (changes_in sequences) text
