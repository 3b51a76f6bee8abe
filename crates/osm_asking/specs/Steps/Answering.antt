-- How an object is found in a save and in what its journal leaves.
use Rattle.std.specs.Prelude.{◌≡◌, ◌≢◌, ℕ, List, Option, Some, None}
use Rattle.std.specs.Prelude.{slice_index_or}
use Rattle.osm_blocks.specs.Places.{HasFile, IsHuge}
use Rattle.osm_model.specs.Change.{ChangeValue}
use Rattle.osm_model.specs.declared.kind.Key.{Key}
use Rattle.osm_mirror.specs.Mirror.{object_at}
use Rattle.osm_net.specs.Net.{NetEntry, net_at}
use Rattle.osm_save.specs.declared.save.Saved.{Saved}
use Rattle.osm_store.specs.Frames.{StoreState}
use Rattle.osm_asking.specs.Finding.{IsSpot}
use Rattle.osm_asking.specs.Lines.{IsOpening}
use Rattle.osm_asking.specs.declared.fault.SearchFault.{SearchFault}
use Rattle.osm_asking.specs.declared.fault.SearchFault.TheVariants.{BadHead, BadLine, Failed, Gone}
use Rattle.osm_asking.specs.declared.fault.SearchFault.TheVariants.{TooLarge, WantOfMemory}
use Rattle.osm_asking.specs.declared.find.Spot.{Spot}
use Rattle.osm_asking.specs.declared.opening.Opened.{Opened}
use Rattle.osm_asking.specs.declared.side.Wanted.TheVariants.{Object}

-- the entry of a key lies at that index; there is none if none is given
abbrev pub IsEntryAt : List NetEntry → Key → Option ℕ → Type 0
IsEntryAt entries key None = net_at entries key ≡ None
IsEntryAt entries key (Some at) =
    (d : NetEntry) → net_at entries key ≡ Some (slice_index_or entries at d).1

-- the object with that key in a save that begins so, and none if that has none
abbrev pub IsSaved : StoreState → List ℕ → Opened → Key → Option ChangeValue → Type 0
IsSaved state save opened key answer =
    (file : List ℕ) (v : Saved) → HasFile state save file → IsOpening file opened v
    → answer ≡ object_at v.mirror.objects key

-- why it isn't found: a line is bad only in no save text that begins so
abbrev pub SavedStops : StoreState → List ℕ → Opened → SearchFault → Type 0
SavedStops state save opened Failed = Unit {0}
SavedStops state save opened Gone = (file : List ℕ) → HasFile state save file → ⊥
SavedStops state save opened (BadHead line) = ⊥
SavedStops state save opened (BadLine place) =
    (file : List ℕ) (v : Saved) → HasFile state save file → IsOpening file opened v → ⊥
SavedStops state save opened TooLarge =
    (file : List ℕ) (v : Saved) → HasFile state save file → IsOpening file opened v → IsHuge file
SavedStops state save opened WantOfMemory = Unit {0}

-- why an object isn't taken: its key is another one
abbrev pub OwnStops : Key → ChangeValue → ℕ → SearchFault → Type 0
OwnStops key object place (BadLine at) = (at ≡ place) × (object.key ≢ key)
OwnStops key object place fault = ⊥

-- the object with that key in a save text, of which that line was found
abbrev pub IsTaken : Opened → Key → Spot → Option ChangeValue → Type 0
IsTaken opened key spot answer =
    (file : List ℕ) (v : Saved) → IsOpening file opened v → IsSpot (Object key) v file spot
    → answer ≡ object_at v.mirror.objects key

-- why the object of a line isn't taken: it is no line of a save text that begins so
abbrev pub TakenStops : Opened → Key → Spot → SearchFault → Type 0
TakenStops opened key spot (BadLine place) =
    (file : List ℕ) (v : Saved) → IsOpening file opened v → IsSpot (Object key) v file spot → ⊥
TakenStops opened key spot WantOfMemory = Unit {0}
TakenStops opened key spot fault = ⊥
