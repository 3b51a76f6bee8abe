-- The entries of a table's map are the rows of the changes that it counts.
use Rattle.std.proofs.Common.{◌≡◌, ℕ, ◌+◌, ◌≤◌, ◌*◌, List, [], ◌∷◌, ◌++◌, length, refl, ap, sym, ◌∙◌, arith, subst, Some, None, Option, inl}
use Rattle.std.specs.Prelude.{IsSome}
use Rattle.std.specs.BTreeMap.{get}
use Rattle.std.specs.List.{All, AllByRecursion, flat_map}
use Rattle.std.specs.List.Sorted.{IsStrictlySortedBy}
use Rattle.std.specs.Map.{keys_of}
use Rattle.std.proofs.lemmas.List.{length-append}
use Rattle.osm_model.specs.Change.{ChangeValue}
use Rattle.osm_publisher.specs.Published.{PublishedValue}
use Rattle.osm_range.specs.Taking.{HasBatch, IsTaking}
use Rattle.osm_range.specs.Ranges.{HasRead, RangeStops, changes_in}
use Rattle.osm_range.specs.declared.range.Range.{Range}
use Rattle.osm_range.specs.declared.range.Reached.{Reached}
use Rattle.osm_runs.specs.declared.fault.RunFault.TheVariants.{WantOfMemory}
use Rattle.osm_store.specs.Files.{Files}
use Rattle.osm_runs.specs.Csv.{csv_line}
use Rattle.osm_runs.specs.declared.options.Layout.{Layout}
use Rattle.osm_runs.specs.declared.options.Layout.TheVariants.{Json, Lines}
use Rattle.osm_range.specs.Columns.{combination_cmp}
use Rattle.osm_range.specs.Runs.{IsTable, IsTallied, table_text}
use Rattle.osm_range.proofs.TakingLemmas.{changes_in-more}
use Rattle.osm_range.specs.Steps.Counting.{Counts, HasRoom, counted_some, names_in}
use Rattle.osm_range.specs.Tally.{AreRows, Row, changes_of, counted}
use Rattle.osm_range.specs.Texts.{Names, csv_cell, csv_row, json_cell, json_line, named, names_of}
use Rattle.osm_range.specs.declared.columns.Column.{Column}
use Rattle.osm_range.specs.declared.columns.Column.TheVariants.{Day, User, Changeset, Kind}
use Rattle.osm_range.specs.declared.columns.Columns.{Columns}
use Rattle.osm_range.specs.declared.counted.Counted.{Counted}
use Rattle.osm_range.specs.declared.table.Table.{Table}

some_row : (cs : List ChangeValue) (row : Counted) → counted_some cs ≡ Some row → ((cs ≡ [] → ⊥) × (row ≡ counted cs))
some_row [] row e = absurd (let bad : None ≡ Some row = e in cc)
some_row (c ∷ cs) row e = (λ none. (let bad : c ∷ cs ≡ [] = none in cc), (let same : counted (c ∷ cs) ≡ row = cc in sym same))

is_some_row : (cs : List ChangeValue) → (cs ≡ [] → ⊥) → IsSome (counted_some cs)
is_some_row [] some = absurd (some refl)
is_some_row (c ∷ cs) some = refl

pub rows_of_table : (changes : List ChangeValue) (table : Table) → Counts changes table
    → IsStrictlySortedBy combination_cmp (keys_of table.rows.entries)
    → All (λ e. get combination_cmp table.rows e.0 ≡ Some e.1) table.rows.entries
    → AreRows table.columns changes table.rows.entries
rows_of_table changes table counts rising found = record {
  rising = rising;
  each = λ k d below.
      let at : Row = Rattle.std.specs.Prelude.slice_index_or table.rows.entries k d in
      let is : counted_some (changes_of table.columns changes at.0) ≡ Some at.1 = sym (counts.rows at.0) ∙ found k d below in
      let both = some_row (changes_of table.columns changes at.0) at.1 is in
      record { some = both.0; counts = both.1 };
  all = λ k some. subst IsSome (sym (counts.rows k)) (is_some_row (changes_of table.columns changes k) some);
}

-- ---- texts by the names

same_csv_cell : (f g : Names) → ((uid : ℕ) → f uid ≡ g uid) → (column : Option Column) (n : ℕ) → csv_cell f column n ≡ csv_cell g column n
same_csv_cell f g same None n = refl
same_csv_cell f g same (Some Day) n = refl
same_csv_cell f g same (Some User) n = rw (same n) refl
same_csv_cell f g same (Some Changeset) n = refl
same_csv_cell f g same (Some Kind) n = refl

same_json_cell : (f g : Names) → ((uid : ℕ) → f uid ≡ g uid) → (column : Option Column) (n : ℕ) → json_cell f column n ≡ json_cell g column n
same_json_cell f g same None n = refl
same_json_cell f g same (Some Day) n = refl
same_json_cell f g same (Some User) n = rw (same n) refl
same_json_cell f g same (Some Changeset) n = refl
same_json_cell f g same (Some Kind) n = refl

same_csv_row : (columns : Columns) (f g : Names) → ((uid : ℕ) → f uid ≡ g uid) → (row : Row) → csv_row columns f row ≡ csv_row columns g row
same_csv_row columns f g same row =
    rw (
      same_csv_cell f g same columns.first row.0.0,
      same_csv_cell f g same columns.second row.0.1,
      same_csv_cell f g same columns.third row.0.2,
      same_csv_cell f g same columns.fourth row.0.3,
    ) refl

same_json_line : (columns : Columns) (f g : Names) → ((uid : ℕ) → f uid ≡ g uid) → (row : Row) → json_line columns f row ≡ json_line columns g row
same_json_line columns f g same row =
    rw (
      same_json_cell f g same columns.first row.0.0,
      same_json_cell f g same columns.second row.0.1,
      same_json_cell f g same columns.third row.0.2,
      same_json_cell f g same columns.fourth row.0.3,
    ) refl

same_lines : (f g : Row → List ℕ) → ((row : Row) → f row ≡ g row) → (rows : List Row) → flat_map f rows ≡ flat_map g rows
same_lines f g same [] = refl
same_lines f g same (row ∷ rows) = rw (same row, same_lines f g same rows) refl

same_text : (layout : Layout) (columns : Columns) (f g : Names) → ((uid : ℕ) → f uid ≡ g uid) → (rows : List Row)
    → table_text layout columns f rows ≡ table_text layout columns g rows
same_text Lines columns f g same rows =
    rw (same_lines (λ row. csv_line (csv_row columns f row)) (λ row. csv_line (csv_row columns g row))
    (λ row. ap csv_line (same_csv_row columns f g same row)) rows) refl
same_text Json columns f g same rows = same_lines (json_line columns f) (json_line columns g) (same_json_line columns f g same) rows

-- the text of a table is that of the changes that it counts
pub table_of : (layout : Layout) (table : Table) (text : List ℕ)
    → ((changes : List ChangeValue) → Counts changes table → AreRows table.columns changes table.rows.entries)
    → text ≡ table_text layout table.columns (names_in table.names) table.rows.entries
    → (changes : List ChangeValue) → Counts changes table → IsTable layout table.columns changes text
table_of layout table text are text_is changes counts = record {
  rows = table.rows.entries;
  are = are changes counts;
  text_is = text_is
      ∙ same_text layout table.columns (names_in table.names) (names_of changes) (λ uid. ap (named uid) (counts.names uid)) table.rows.entries;
}

-- ---- how many changes there are

many : (ps : List PublishedValue) → AllByRecursion HasBatch ps → length (changes_in ps) ≤ 100000 * length ps
many [] each = omega arith
many (p ∷ ps) each =
    let first = each.0 in
    let rest : length (changes_in ps) ≤ 100000 * length ps = many ps each.1 in
    let joined : length (changes_in (p ∷ ps)) ≡ length p.changes + length (changes_in ps) = length-append p.changes (changes_in ps) in
    omega (arith, first.few, rest, joined)

pub room_of : (table : Table) (number time : ℕ) (changes : List ChangeValue)
    → IsTaking (λ (t : Table) (sequences : List PublishedValue). Counts (changes_in sequences) t) table number time changes → HasRoom (length changes) table
room_of table number time changes taking =
    let most = many taking.holding.before taking.holding.each in
    record {
      changes = changes_in taking.holding.before;
      counts = taking.holding.held;
      few = omega (arith, most, taking.holding.few, taking.batch.few);
    }

-- the changes of one sequence more were counted
pub counts_taken : (before : List PublishedValue) (number time : ℕ) (changes : List ChangeValue) (table : Table)
    → Counts (changes_in before ++ changes) table → Counts (changes_in (before ++ record { number = number; changes = changes; time = time } ∷ [])) table
counts_taken before number time changes table counts =
    subst (λ cs. Counts cs table) (sym (changes_in-more before (record { number = number; changes = changes; time = time }))) counts

-- the range was read, and the text is that of what was counted
pub tallied_of : (known : Type 0) (files : Files) (dir : List ℕ) (range : Range) (layout : Layout) (columns : Columns) (text : List ℕ)
    (table : Table) (reached : Reached) → table.columns ≡ columns
    → HasRead (λ (t : Table) (sequences : List PublishedValue). Counts (changes_in sequences) t) known files dir range table reached
    → ((changes : List ChangeValue) → Counts changes table → IsTable layout table.columns changes text)
    → IsTallied known files dir range layout columns text reached
tallied_of known files dir range layout columns text table reached same read is = record {
  sequences = read.sequences;
  read = read.read;
  table = subst (λ d. IsTable layout d (changes_in read.sequences) text) same (is (changes_in read.sequences) read.held);
}

-- memory may be refused at any time
pub no_memory : (known : Type 0) (files : Files) (dir : List ℕ) (range : Range) → RangeStops known files dir range WantOfMemory
no_memory known files dir range = inl tt
