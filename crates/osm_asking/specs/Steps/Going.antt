-- How the reading of a save goes on.
use Rattle.std.specs.Prelude.{ℕ, List, Option, Result}
use Rattle.osm_blocks.specs.Calls.{Advances, reads_ahead}
use Rattle.osm_blocks.specs.Places.{HasFile, Place, left_of}
use Rattle.osm_merge.specs.Faults.{IsDeviceFault}
use Rattle.osm_merge.specs.Reading.{LineStops}
use Rattle.osm_merge.specs.declared.fault.MergeFault.{MergeFault}
use Rattle.osm_store.specs.Frames.{StoreState}

-- why what comes next of a known file isn't read
abbrev pub NextStops : {A : Type 0} → StoreState → List ℕ → (List ℕ → Option A) → Place
    → MergeFault → Type 0
NextStops state name reading begun fault = (file : List ℕ) → HasFile state name file
    → LineStops file fault (reading (left_of begun file))

-- blocks of it were read up to the new place
abbrev pub ReadsOn : {T : Type 0} → StoreState → StoreState → List ℕ → Place → Place
    → Result T MergeFault → Type 0
ReadsOn old new name begun now result = (file : List ℕ) → HasFile old name file
    → Advances IsDeviceFault (reads_ahead begun file) (λ _. reads_ahead now file) old new result
