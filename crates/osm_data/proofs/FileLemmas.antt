-- A file that is opened and read on, block by block.
use Rattle.std.proofs.Common.{◌≡◌, ℕ, ◌+◌, ◌≤◌, List, length, take, drop, Option, Some, sym, subst, ◌∙◌, arith}
use Rattle.std.specs.Prelude.{Bool, IsTrue, Ok}
use Rattle.std.proofs.lemmas.Option.{same_Some}
use Rattle.osm_store.specs.Files.{Files}
use Rattle.osm_store.specs.Frames.{StoreState}
use Rattle.osm_blocks.specs.Calls.{blocks_after_first, blocks_in, reads_ahead}
use Rattle.osm_blocks.specs.Frames as blocks
use Rattle.osm_blocks.specs.Frames.{ReadsOften}
use Rattle.osm_blocks.specs.Places.{HasFile, Opens, Place, left_of, max_block}
use Rattle.osm_blocks.specs.declared.fault.BlockFault.{BlockFault}
use Rattle.osm_blocks.specs.declared.fault.BlockFault.TheVariants as faults
use Rattle.osm_blocks.proofs.CallLemmas.{opened_ahead}
use Rattle.osm_data.specs.Reading.{IsDeviceFault, blocks_fault_of, read_calls}
use Rattle.osm_data.specs.declared.fault.DataFault.{DataFault}

-- a file stays known, and has the same bytes
pub has_still : {T E : Type 0} {blames : E → Type 0} (a b : StoreState) (x : T) (name file : List ℕ) → ReadsOften blames a b (Ok x) → HasFile a name file
    → HasFile b name file
has_still a b x name file frame has = record {
  known = subst (λ (t : Bool). IsTrue t) (sym frame.known) has.known;
  there = subst (λ (f : Files). f name ≡ Some file) (sym frame.files) has.there;
}

-- what is said of a call that succeeds doesn't depend on whom a refused one blames
pub often_ok : {T U E F : Type 0} (blames : E → Type 0) (others : F → Type 0) (a b : StoreState) (x : T) (y : U) → ReadsOften blames a b (Ok x)
    → ReadsOften others a b (Ok y)
often_ok blames others a b x y frame = record {
  files = frame.files;
  known = frame.known;
  left = frame.left;
  failures = frame.failures;
  failed = tt;
  stops = tt;
}

-- the device is the reason only if it is for the blocks
pub blamed : (fault : BlockFault) (result : DataFault) → result ≡ blocks_fault_of fault → IsDeviceFault result → blocks.IsDeviceFault fault
blamed fault result is blame = by_cases fault (subst (λ (f : DataFault). IsDeviceFault f) is blame)
  where
    by_cases : (fault : BlockFault) → IsDeviceFault (blocks_fault_of fault) → blocks.IsDeviceFault fault
    by_cases faults.Device blame = tt
    by_cases faults.LongLine blame = blame
    by_cases faults.TooLarge blame = blame
    by_cases faults.WantOfMemory blame = blame

-- the file that was opened
pub opens_file : (told : Option (List ℕ)) (place : Place) (file : List ℕ) → Opens (Some place) told → told ≡ Some file
    → (place.unread ≡ take max_block file) × (left_of place file ≡ file)
opens_file told place file o there =
    let same : o.0 ≡ file = same_Some o.0 file (sym o.1 ∙ there) in
    subst (λ (f : List ℕ). (place.unread ≡ take max_block f) × (left_of place f ≡ f)) same (o.2, o.3)

-- the calls that are ahead then
pub opened_calls : (place : Place) (file : List ℕ) → place.unread ≡ take max_block file → left_of place file ≡ file
    → reads_ahead place file + 1 ≤ read_calls (length file)
opened_calls place file unread left =
    let ahead : blocks_in (length (drop place.from file)) ≡ blocks_after_first (length file) = opened_ahead place file unread left in
    omega (arith, ahead)
