-- A map's entries, seen as the lists of a mirror.
use Rattle.std.specs.Prelude.{◌≡◌, List, map}
use Rattle.std.specs.List.{AllByRecursion}
use Rattle.osm_model.specs.Change.{ChangeValue}
use Rattle.osm_model.specs.declared.kind.Key.{Key}
use Rattle.osm_mirror.specs.Mirror.{Counted, HasNumber, IsAboveZero, IsObject}

-- an object is in the map under its own key
abbrev pub HasOwnKey : Key × ChangeValue → Type 0
HasOwnKey e = e.0 ≡ e.1.key

abbrev pub HaveOwnKeys : List (Key × ChangeValue) → Type 0
HaveOwnKeys entries = AllByRecursion HasOwnKey entries

-- the objects, in the order of their keys
abbrev pub objects_of : List (Key × ChangeValue) → List ChangeValue
objects_of entries = map (λ e. e.1) entries

-- each object is under its own key, and is one that a mirror may have
pub record AreObjects (entries : List (Key × ChangeValue)) : Type 0 where
  pub own : HaveOwnKeys entries
  pub each : AllByRecursion IsObject (objects_of entries)

-- each number is within the limits, and each count above 0
pub record AreCounts (entries : List Counted) : Type 0 where
  pub numbers : AllByRecursion HasNumber entries
  pub above : AllByRecursion IsAboveZero entries
