-- What holds of filters, for any of them.
use Rattle.std.specs.Prelude.{◌≡◌, true, false, ◌↔◌, List, Option, Some, None}
use Rattle.osm_model.specs.Change.{ChangeValue}
use Rattle.osm_model.specs.Content.{object_after, over}
use Rattle.osm_model.specs.Filter.{FilterValue, everything, keeps, kept, kept_object, left_by}
use Rattle.osm_model.specs.declared.kind.Key.{Key}
use Rattle.osm_model.specs.contracts.filter.FilterPartialEq.TheImpl.{ghosts as equality}

-- two filters are equal exactly if they choose the same kinds and have the same keys
abbrev pub FiltersAreTold : Type 0
FiltersAreTold = (a b : FilterValue) → (equality.eq a b ≡ true) ↔ (a ≡ b)

-- the filter without conditions keeps every object
abbrev pub EverythingIsKept : Type 0
EverythingIsKept = (c : ChangeValue) → object_after c ≡ Some c → keeps everything c ≡ true

-- no filter keeps a deletion
abbrev pub DeletionsAreDropped : Type 0
DeletionsAreDropped =
    (f : FilterValue) (c : ChangeValue) → object_after c ≡ None → keeps f c ≡ false

-- what is kept of an object is the object itself, and only if the filter keeps it
abbrev pub KeptAreObjects : Type 0
KeptAreObjects = (f : FilterValue) (o : Option ChangeValue) (c : ChangeValue)
    → (kept_object f o ≡ Some c) ↔ ((o ≡ Some c) × (keeps f c ≡ true))

-- under the filter without conditions a change leaves what it leaves without a filter
abbrev pub EverythingIsLeft : Type 0
EverythingIsLeft = (c : ChangeValue) → left_by everything c ≡ object_after c

-- an extract can be kept up by itself: changes made over what was kept of the objects, each leaving
-- only what is kept, give what is kept of the objects with the changes made over them
abbrev pub ExtractsAreKeptUp : Type 0
ExtractsAreKeptUp = (f : FilterValue) (objects : Key → Option ChangeValue)
    (changes : List ChangeValue) (k : Key)
    → over (left_by f) (kept f objects) changes k ≡ kept f (over object_after objects changes) k

-- nothing that was not kept is needed later: what is kept of the objects with changes made over
-- them is the same if the changes are made over what was kept
abbrev pub ExtractsAreEnough : Type 0
ExtractsAreEnough = (f : FilterValue) (objects : Key → Option ChangeValue)
    (changes : List ChangeValue) (k : Key)
    → kept f (over object_after (kept f objects) changes) k
    ≡ kept f (over object_after objects changes) k
