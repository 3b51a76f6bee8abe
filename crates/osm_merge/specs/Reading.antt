-- What is read from a known file.
use Rattle.std.specs.Prelude.{◌≡◌, ℕ, ◌+◌, List, length, take, Option, None, Some, Result, Ok, Err}
use Rattle.std.specs.Prelude.{Bool, ◌==◌}
use Rattle.osm_blocks.specs.Places.{HasFile, IsHuge, IsLong, Place, left_of, past}
use Rattle.osm_reading.specs.Pieces.{cut_at}
use Rattle.osm_store.specs.Frames.{StoreState}
use Rattle.osm_merge.specs.declared.fault.MergeFault.{MergeFault}
use Rattle.osm_merge.specs.declared.fault.MergeFault.TheVariants.{BadSave, Changed, ReadFault}
use Rattle.osm_merge.specs.declared.fault.MergeFault.TheVariants.{WriteFault}
use Rattle.osm_merge.specs.declared.fault.MergeFault.TheVariants.{LongLine, NoSave, TooLarge}
use Rattle.osm_merge.specs.declared.fault.MergeFault.TheVariants.{WantOfMemory}

-- the next line of a known file
abbrev pub FindsNext : List ℕ → Place → Place → Result ℕ MergeFault → Type 0
FindsNext file old new (Ok count) =
    cut_at 10 (left_of old file)
    ≡ Some (take count new.unread, left_of (past (count + 1) new) file)
FindsNext file old new (Err (BadSave line)) = cut_at 10 (left_of old file) ≡ None
FindsNext file old new (Err LongLine) = IsLong (left_of old file)
FindsNext file old new (Err TooLarge) = IsHuge file
FindsNext file old new (Err NoSave) = ⊥
FindsNext file old new (Err Changed) = ⊥
FindsNext file old new (Err ReadFault) = Unit {0}
FindsNext file old new (Err WriteFault) = Unit {0}
FindsNext file old new (Err WantOfMemory) = Unit {0}

-- why nothing is read: a bad line or a long one only if nothing can be read, and a large file only
-- if it is
abbrev pub LineStops : {A : Type 0} → List ℕ → MergeFault → Option A → Type 0
LineStops file (BadSave line) reading = reading ≡ None
LineStops file LongLine reading = reading ≡ None
LineStops file TooLarge reading = IsHuge file
LineStops file NoSave reading = ⊥
LineStops file Changed reading = ⊥
LineStops file ReadFault reading = Unit {0}
LineStops file WriteFault reading = Unit {0}
LineStops file WantOfMemory reading = Unit {0}

-- why nothing is read of the file of that name at a place
abbrev pub Refuses : {A : Type 0} → StoreState → List ℕ → Place → (List ℕ → Option A) → MergeFault
    → Type 0
Refuses state name place reading fault = (file : List ℕ) → HasFile state name file
    → LineStops file fault (reading (left_of place file))

-- the answer and what is left of the file at the new place are what the reading gives
abbrev pub Follows : {A B : Type 0} → (A → B) → List ℕ → Place → Result A MergeFault
    → Option (B × List ℕ) → Type 0
Follows view file place (Ok x) reading = reading ≡ Some (view x, left_of place file)
Follows view file place (Err fault) reading = LineStops file fault reading

-- what is left of the file at the new place is what the reading gives
abbrev pub Passes : List ℕ → Place → Result (Unit {0}) MergeFault → Option (List ℕ) → Type 0
Passes file place (Ok x) reading = reading ≡ Some (left_of place file)
Passes file place (Err fault) reading = LineStops file fault reading

-- whether nothing is left of a known file
abbrev pub Ends : List ℕ → Place → Result Bool MergeFault → Type 0
Ends file place (Ok is_ended) = (length (left_of place file) == 0) ≡ is_ended
Ends file place (Err (BadSave line)) = ⊥
Ends file place (Err LongLine) = ⊥
Ends file place (Err TooLarge) = IsHuge file
Ends file place (Err NoSave) = ⊥
Ends file place (Err Changed) = ⊥
Ends file place (Err ReadFault) = Unit {0}
Ends file place (Err WriteFault) = Unit {0}
Ends file place (Err WantOfMemory) = Unit {0}

-- why a file isn't opened: there is none
abbrev pub OpenStops : Option (List ℕ) → MergeFault → Type 0
OpenStops told NoSave = told ≡ None
OpenStops told ReadFault = Unit {0}
OpenStops told WriteFault = Unit {0}
OpenStops told WantOfMemory = Unit {0}
OpenStops told fault = ⊥
