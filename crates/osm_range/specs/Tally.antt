-- A tally: changes counted by the columns that were chosen. No change is counted twice, so what the
-- rows have is defined by filters of the changes and their lengths.
use Rattle.std.specs.Prelude.{◌≡◌, ℕ, ◌==◌, ◌&&◌, not, Bool, List, [], ◌∷◌, Option, Some, None}
use Rattle.std.specs.Prelude.{IsSome, is_none, if◌then◌else◌, filter, length, map}
use Rattle.std.specs.BTreeMap.{is_at}
use Rattle.std.specs.List.{All, list_any}
use Rattle.std.specs.List.Sorted.{IsStrictlySortedBy}
use Rattle.std.specs.Map.{lookup}
use Rattle.osm_model.specs.Change.{ChangeValue}
use Rattle.osm_model.specs.Content.{object_after}
use Rattle.osm_range.specs.Columns.{Combination, combination_cmp, combination_of, same_combination}
use Rattle.osm_range.specs.declared.columns.Columns.{Columns}
use Rattle.osm_range.specs.declared.counted.Counted.{Counted}

-- a deletion, whatever its version
abbrev pub is_deleted : ChangeValue → Bool
is_deleted c = is_none (object_after c)

-- version 1 of an object
abbrev pub is_created : ChangeValue → Bool
is_created c = not (is_deleted c) && c.meta.version == 1

-- a later version
abbrev pub is_modified : ChangeValue → Bool
is_modified c = not (is_deleted c) && not (c.meta.version == 1)

-- each number of a list once
abbrev pub different : List ℕ → List ℕ
different [] = []
different (n ∷ ns) = if list_any (λ m. m == n) ns then different ns else n ∷ different ns

-- how many of the changes are of each sort, and how many different changesets they have
abbrev pub counted : List ChangeValue → Counted
counted changes = record {
  created = length (filter is_created changes);
  modified = length (filter is_modified changes);
  deleted = length (filter is_deleted changes);
  changesets = length (different (map (λ c. c.meta.changeset) changes));
}

-- the changes with that combination
abbrev pub changes_of : Columns → List ChangeValue → Combination → List ChangeValue
changes_of columns changes k =
    filter (λ c. same_combination (combination_of columns c) k) changes

-- a combination, and what is counted of its changes
abbrev pub Row : Type 0
Row = Combination × Counted

-- some change has the combination of the row, and the row counts exactly the changes that have it
pub record IsRow (columns : Columns) (changes : List ChangeValue) (row : Row) : Type 0 where
  pub some : changes_of columns changes row.0 ≡ [] → ⊥
  pub counts : row.1 ≡ counted (changes_of columns changes row.0)

-- the rows are those of the changes: one for each combination that some change has, in order, so
-- that none comes twice
pub record AreRows (columns : Columns) (changes : List ChangeValue) (rows : List Row)
    : Type 0 where
  pub rising : IsStrictlySortedBy combination_cmp (map (λ row. row.0) rows)
  pub each : All (IsRow columns changes) rows
  pub all : (k : Combination) → (changes_of columns changes k ≡ [] → ⊥)
      → IsSome (lookup (is_at (combination_cmp k)) rows)

-- the later of two names, if there is one
abbrev pub later_name : Option (List ℕ) → Option (List ℕ) → Option (List ℕ)
later_name first None = first
later_name first (Some name) = Some name

-- the name of a user in the last change by the user
abbrev pub last_name : List ChangeValue → ℕ → Option (List ℕ)
last_name [] uid = None
last_name (c ∷ cs) uid =
    later_name (if c.meta.uid == uid then Some c.meta.user else None) (last_name cs uid)
