-- The last change of each object in a map, and the same changes in rows by rising keys.
use Rattle.std.specs.Prelude.{◌≡◌, ℕ, ℤ, Bool, ◌&&◌, List, map, nat_eq}
use Rattle.std.specs.Borrow.{Bor}
use Rattle.std.specs.List.{AllByRecursion, IsDistinct}
use Rattle.std.specs.Map.{keys_of, values_of}
use Rattle.std.specs.Ordering.{int_eq}
use Rattle.osm_model.specs.Change.{ChangeValue}
use Rattle.osm_model.specs.KeyOrder.{kind_rank}
use Rattle.osm_model.specs.declared.kind.Key.{Key}
use Rattle.osm_mirror.specs.Entries.{HaveOwnKeys, objects_of}
use Rattle.osm_mirror.specs.Mirror.{AreRising, object_at}

-- what a map finds the change of an object by
abbrev pub Label : Type 0
Label = ℤ × ℕ

abbrev pub label_of : Key → Label
label_of k = (k.id, kind_rank k.kind)

abbrev pub same_label : Label → Label → Bool
same_label a b = int_eq a.0 b.0 && nat_eq a.1 b.1

-- a change is in the map under the label of its object
abbrev pub HasOwnLabel : Label × ChangeValue → Type 0
HasOwnLabel e = e.0 ≡ label_of e.1.key

abbrev pub HaveOwnLabels : List (Label × ChangeValue) → Type 0
HaveOwnLabels entries = AllByRecursion HasOwnLabel entries

-- a row with what its reference shows
abbrev pub entry_of : Key × Bor ChangeValue → Key × ChangeValue
entry_of row = (row.0, row.1.now)

abbrev pub changes_in_rows : List (Key × Bor ChangeValue) → List ChangeValue
changes_in_rows rows = objects_of (map entry_of rows)

-- the rows have the changes of a map, in its order, each with its key, and the map has one change
-- under a label
pub record AreRows (entries : List (Label × ChangeValue)) (rows : List (Key × Bor ChangeValue))
    : Type 0 where
  pub changes : changes_in_rows rows ≡ values_of entries
  pub own : HaveOwnKeys (map entry_of rows)
  pub apart : IsDistinct same_label (keys_of entries)

-- the rows have these changes by rising keys
pub record RiseAs (latest : List ChangeValue) (rows : List (Key × Bor ChangeValue)) : Type 0 where
  pub rising : AreRising (changes_in_rows rows)
  pub each : (k : Key) → object_at (changes_in_rows rows) k ≡ object_at latest k
