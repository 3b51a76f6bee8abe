-- A table that counts changes one after the other.
use Rattle.std.specs.Prelude.{◌≡◌, ℕ, ◌+◌, ◌<◌, ◌^◌, ◌==◌, Bool, true, false, ◌||◌, List, [], ◌∷◌}
use Rattle.std.specs.Prelude.{Option, Some, None, length, if◌then◌else◌, unwrap_or}
use Rattle.std.specs.BTreeMap.{BTreeMap, get}
use Rattle.std.specs.BTreeSet.{contains}
use Rattle.std.specs.List.{list_any}
use Rattle.std.specs.Ordering.{is_eq, nat_cmp, ordering_then}
use Rattle.std.specs.declared.cmp.Ordering.{Ordering}
use Rattle.osm_model.specs.Change.{ChangeValue}
use Rattle.osm_range.specs.Columns.{Combination, combination_cmp, combination_of}
use Rattle.osm_range.specs.Tally.{changes_of, counted, is_created, is_deleted, is_modified}
use Rattle.osm_range.specs.Tally.{last_name}
use Rattle.osm_range.specs.Texts.{Names, named}
use Rattle.osm_range.specs.declared.columns.Column.{Column}
use Rattle.osm_range.specs.declared.columns.Column.TheVariants.{Day, User, Changeset, Kind}
use Rattle.osm_range.specs.declared.columns.Columns.{Columns}
use Rattle.osm_range.specs.declared.counted.Counted.{Counted}
use Rattle.osm_range.specs.declared.table.Table.{Table}

-- 1 if it is so
abbrev pub one_if : Bool → ℕ
one_if b = if b then 1 else 0

-- nothing is counted
abbrev pub no_changes : Counted
no_changes = record { created = 0; modified = 0; deleted = 0; changesets = 0 }

-- one change more, which may be the first one of its changeset; unless that is given, all changes
-- of the row have one changeset
unfoldable pub one_more : Counted → ChangeValue → Option Bool → Counted
one_more old c is_first = record {
  created = old.created + one_if (is_created c);
  modified = old.modified + one_if (is_modified c);
  deleted = old.deleted + one_if (is_deleted c);
  changesets = old.changesets + one_if (unwrap_or is_first (old.changesets == 0));
}

-- what is counted of changes, if there is one
abbrev pub counted_some : List ChangeValue → Option Counted
counted_some [] = None
counted_some (c ∷ cs) = Some (counted (c ∷ cs))

-- a combination and a changeset, in order
abbrev pub pair_cmp : Combination × ℕ → Combination × ℕ → Ordering
pair_cmp a b = ordering_then (combination_cmp a.0 b.0) (nat_cmp a.1 b.1)

-- what a change has of both
abbrev pub pair_of : Columns → ChangeValue → Combination × ℕ
pair_of columns c = (combination_of columns c, c.meta.changeset)

-- whether one of the changes has that combination and that changeset
abbrev pub is_seen : Columns → List ChangeValue → Combination × ℕ → Bool
is_seen columns changes p = list_any (λ c. is_eq (pair_cmp (pair_of columns c) p)) changes

-- whether a column is that of the changeset
abbrev pub is_changeset : Option Column → Bool
is_changeset None = false
is_changeset (Some Day) = false
is_changeset (Some User) = false
is_changeset (Some Changeset) = true
is_changeset (Some Kind) = false

-- whether the changeset is one of the columns; then each row has one changeset
abbrev pub has_changeset : Columns → Bool
has_changeset columns =
    is_changeset columns.first || (is_changeset columns.second
    || (is_changeset columns.third || is_changeset columns.fourth))

-- the table counts exactly those changes
pub record Counts (changes : List ChangeValue) (table : Table) : Type 0 where
  pub rows : (k : Combination) → get combination_cmp table.rows k
      ≡ counted_some (changes_of table.columns changes k)
  pub seen : has_changeset table.columns ≡ false → (p : Combination × ℕ)
      → contains pair_cmp table.seen p ≡ is_seen table.columns changes p
  pub names : (uid : ℕ) → get nat_cmp table.names uid ≡ last_name changes uid

-- there is room for that many more changes
pub record HasRoom (more : ℕ) (table : Table) : Type 0 where
  pub changes : List ChangeValue
  pub counts : Counts changes table
  pub few : length changes + more < 2 ^ 64

-- no count of a row is at the end
pub record IsBelow (row : Counted) : Type 0 where
  pub created : row.created + 1 < 2 ^ 64
  pub modified : row.modified + 1 < 2 ^ 64
  pub deleted : row.deleted + 1 < 2 ^ 64
  pub changesets : row.changesets + 1 < 2 ^ 64

-- what is counted at a combination, nothing if there is no row
abbrev pub counted_in : BTreeMap Combination Counted → Combination → Counted
counted_in rows k = unwrap_or (get combination_cmp rows k) no_changes

-- the names in a map
abbrev pub names_in : BTreeMap ℕ (List ℕ) → Names
names_in names uid = named uid (get nat_cmp names uid)
