-- Reading one file of a run. `known` says that it is known what the files hold, and a
-- word that ends in `In` takes the state of a store in place of `known` and the files.
use Rattle.std.specs.Prelude.{◌≡◌, ℕ, Bool, List, Option, Some, None, Vec, is_some}
use Rattle.osm_store.specs.Files.{IsOver, Tells}
use Rattle.osm_store.specs.Frames.{IsKnown, StoreState}
use Rattle.osm_runs.specs.declared.fault.FileName.{FileName}
use Rattle.osm_runs.specs.declared.fault.RunFault.{RunFault}
use Rattle.osm_runs.specs.declared.fault.RunFault.TheVariants.{WantOfMemory, ReadFault}
use Rattle.osm_runs.specs.declared.fault.RunFault.TheVariants.{TooLarge, Absent}

-- the answer of a read is what the file of that name holds
abbrev pub TellsIn : {Z : Type 0} → StoreState → List ℕ → Option (Vec ℕ Z) → Type 0
TellsIn store name o = IsKnown store → Tells o (store.files name)

-- the answer is whether there is a file of that name
abbrev pub TellsIfThere : StoreState → List ℕ → Bool → Type 0
TellsIfThere store name is_there = IsKnown store → is_there ≡ is_some (store.files name)

-- the file of that name is there, and holds those bytes
abbrev pub HoldsIn : StoreState → List ℕ → List ℕ → Type 0
HoldsIn store name bytes = IsKnown store → store.files name ≡ Some bytes

-- why a file isn't read
abbrev pub FileStops : Type 0 → FileName → ℕ → Option (List ℕ) → RunFault → Type 0
FileStops known file limit told WantOfMemory = Unit {0}
FileStops known file limit told (ReadFault named) = named ≡ file
FileStops known file limit told (TooLarge named) = (named ≡ file) × (known → IsOver limit told)
FileStops known file limit told fault = ⊥

-- the same for the file of that name in a store
abbrev pub FileStopsIn : StoreState → List ℕ → FileName → ℕ → RunFault → Type 0
FileStopsIn store name file limit = FileStops (IsKnown store) file limit (store.files name)

-- why it isn't told whether a file is there
abbrev pub ThereStops : FileName → RunFault → Type 0
ThereStops file WantOfMemory = Unit {0}
ThereStops file (ReadFault named) = named ≡ file
ThereStops file fault = ⊥

-- why a file that has to be there isn't read
abbrev pub PresentStops : Type 0 → FileName → ℕ → Option (List ℕ) → RunFault → Type 0
PresentStops known file limit told (Absent named) = (named ≡ file) × (known → told ≡ None)
PresentStops known file limit told fault = FileStops known file limit told fault

-- the same for the file of that name in a store
abbrev pub PresentStopsIn : StoreState → List ℕ → FileName → ℕ → RunFault → Type 0
PresentStopsIn store name file limit = PresentStops (IsKnown store) file limit (store.files name)
