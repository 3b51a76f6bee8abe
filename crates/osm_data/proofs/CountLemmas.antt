-- How far the bytes of a file were given to a counter.
use Rattle.std.proofs.Common.{◌≡◌, ℕ, List, ◌++◌, length, drop, Option, Some, ap}
use Rattle.std.specs.Prelude.{Err, Ok}
use Rattle.osm_model.specs.Filter.{FilterValue}
use Rattle.osm_store.specs.Files.{Spends}
use Rattle.osm_store.specs.Frames.{IsKnown, StoreState}
use Rattle.osm_blocks.specs.Calls.{SpendsDown, reads_ahead}
use Rattle.osm_blocks.specs.Frames.{ReadsOften}
use Rattle.osm_blocks.specs.Places.{HasFile, Place, ReadsMore, left_of, past}
use Rattle.osm_blocks.specs.declared.fault.BlockFault.{BlockFault}
use Rattle.osm_blocks.specs.declared.fault.BlockFault.TheVariants as faults
use Rattle.osm_data.specs.Counting.{CountStops, count_calls}
use Rattle.osm_data.specs.Reading.{IsDeviceFault, blocks_fault_of, read_calls}

-- blocks were read, and what was passed of them was counted
pub record Counting {C : Type 0} (comes_to : FilterValue → C → List ℕ → ℕ → Type 0) (f : FilterValue) (begun state : StoreState) (name : List ℕ)
    (first counter : C) (place : Place) : Type 0 where
  pub frame : ReadsOften {T = Unit {0}} IsDeviceFault begun state (Ok tt)
  pub stage : state.stage ≡ begun.stage
  pub spends : Spends 1 begun.left state.left
  pub there : IsKnown begun → (file : List ℕ) × HasFile begun name file
  pub comes : (file : List ℕ) (total : ℕ) → HasFile begun name file → comes_to f first file total → comes_to f counter (left_of place file) total
  pub calls : (file : List ℕ) → HasFile begun name file → SpendsDown (read_calls (length file)) (reads_ahead place file) begun.left state.left

-- what was passed, and what is left of the file
pub passed_left : {C : Type 0} (comes_to : FilterValue → C → List ℕ → ℕ → Type 0) (f : FilterValue) (old new : C) (place : Place) (passed : ℕ)
    → ((more : List ℕ) (total : ℕ) → comes_to f old (place.unread ++ more) total → comes_to f new (drop passed place.unread ++ more) total)
    → (file : List ℕ) (total : ℕ) → comes_to f old (left_of place file) total → comes_to f new (left_of (past passed place) file) total
passed_left comes_to f old new place passed goes_on file total comes = goes_on (drop place.from file) total comes

-- why no more blocks come
pub more_stops : (state : StoreState) (name : List ℕ) (old new : Place) (fault : BlockFault) → (IsKnown state → (file : List ℕ) × HasFile state name file)
    → ((file : List ℕ) → HasFile state name file → ReadsMore file old new (Err fault)) → CountStops state name (blocks_fault_of fault)
more_stops state name old new faults.Device there stops = tt
more_stops state name old new faults.WantOfMemory there stops = tt
more_stops state name old new faults.LongLine there stops = λ known. (let at = there known in stops at.0 at.1)
more_stops state name old new faults.TooLarge there stops = λ known. (let at = there known in (at.0, at.1.there, stops at.0 at.1))

-- the calls for a file that is there
pub calls_there : (told : Option (List ℕ)) (file : List ℕ) → told ≡ Some file → count_calls told ≡ read_calls (length file)
calls_there told file there = ap count_calls there
