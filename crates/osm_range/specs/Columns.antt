-- What a change has in the columns of a tally.
use Rattle.std.specs.Prelude.{◌≡◌, ℕ, ◌*◌, ◌/◌, Bool, List, [], ◌∷◌, ◌++◌, Option, Some, None}
use Rattle.std.specs.Prelude.{IsSome, codes}
use Rattle.std.specs.Borrow.{Bor}
use Rattle.std.specs.BTreeMap.{is_at}
use Rattle.std.specs.Ordering.{nat_cmp, ordering_then}
use Rattle.std.specs.declared.cmp.Ordering.{Ordering}
use Rattle.osm_model.specs.Change.{ChangeValue}
use Rattle.osm_model.specs.KeyOrder.{kind_rank}
use Rattle.osm_range.specs.declared.columns.Column.{Column}
use Rattle.osm_range.specs.declared.columns.Column.TheVariants.{Day, User, Changeset, Kind}
use Rattle.osm_range.specs.declared.columns.Columns.{Columns}

-- the number of a change in a column: the first second of the day of its own time (in seconds since
-- 1970-01-01T00:00:00Z), the number of its user or of its changeset, or the position of its
-- object's kind; 0 if there is no column
abbrev pub number_in : Option Column → ChangeValue → ℕ
number_in None c = 0
number_in (Some Day) c = c.meta.time / 86400 * 86400
number_in (Some User) c = c.meta.uid
number_in (Some Changeset) c = c.meta.changeset
number_in (Some Kind) c = kind_rank c.key.kind

-- a number for each column, in the order of the columns, and then zeros
abbrev pub Combination : Type 0
Combination = ℕ × ℕ × ℕ × ℕ

-- what a change has in all columns
abbrev pub combination_of : Columns → ChangeValue → Combination
combination_of columns c = (
  number_in columns.first c,
  number_in columns.second c,
  number_in columns.third c,
  number_in columns.fourth c,
)

-- which of two combinations comes first: the one with the smaller number in the first column in
-- which they differ
abbrev pub combination_cmp : Combination → Combination → Ordering
combination_cmp a b =
    ordering_then (ordering_then (ordering_then (nat_cmp a.0 b.0) (nat_cmp a.1 b.1))
    (nat_cmp a.2 b.2)) (nat_cmp a.3 b.3)

-- whether two combinations are equal
abbrev pub same_combination : Combination → Combination → Bool
same_combination a b = is_at (combination_cmp a) b

-- the name of a column on the command line
abbrev pub column_text : Column → List ℕ
column_text Day = codes "day"
column_text User = codes "user"
column_text Changeset = codes "changeset"
column_text Kind = codes "kind"

-- a further column: a comma and its name
abbrev pub further_text : Option Column → List ℕ
further_text None = []
further_text (Some column) = 44 ∷ column_text column

-- the first column if there is one, and then each further one after a comma
abbrev pub first_text : Option Column → List ℕ
first_text None = []
first_text (Some column) = column_text column

abbrev pub columns_text : Columns → List ℕ
columns_text columns =
    first_text columns.first ++ (further_text columns.second ++ (further_text columns.third
    ++ further_text columns.fourth))

-- the word doesn't begin with a comma
abbrev pub IsAtNoComma : List ℕ → Type 0
IsAtNoComma word = (rest : List ℕ) → word ≡ 44 ∷ rest → ⊥

-- the two aren't the same column
abbrev pub Differ : Option Column → Option Column → Type 0
Differ a b = (column : Column) → a ≡ Some column → b ≡ Some column → ⊥

-- no column comes twice
pub record AreDifferent (columns : Columns) : Type 0 where
  pub second : Differ columns.first columns.second
  pub third : Differ columns.first columns.third
  pub fourth : Differ columns.first columns.fourth
  pub third_of_second : Differ columns.second columns.third
  pub fourth_of_second : Differ columns.second columns.fourth
  pub fourth_of_third : Differ columns.third columns.fourth

-- there is a first column, none stands after a place without one, and none comes twice
pub record IsChoice (columns : Columns) : Type 0 where
  pub some : IsSome columns.first
  pub third : columns.second ≡ None → columns.third ≡ None
  pub fourth : columns.third ≡ None → columns.fourth ≡ None
  pub different : AreDifferent columns

-- what is asked for if no columns are named
abbrev pub day_and_user : Columns
day_and_user = record { first = Some Day; second = Some User; third = None; fourth = None }

-- the word names these columns
abbrev pub IsNamedBy : List ℕ → Columns → Type 0
IsNamedBy word columns = IsChoice columns × (word ≡ columns_text columns)

-- the word names these columns; if there is no word, they are day and user
abbrev pub IsNamed : Option (Bor (List ℕ)) → Columns → Type 0
IsNamed None columns = columns ≡ day_and_user
IsNamed (Some word) columns = IsNamedBy word.now columns
