-- The search for a line.
use Rattle.std.proofs.Common.{◌≡◌, ℕ, List, Some, sym, subst}
use Rattle.std.specs.Prelude.{Ok, IsTrue, Bool}
use Rattle.osm_store.specs.Files.{Files}
use Rattle.osm_store.specs.Frames.{StoreState}
use Rattle.osm_blocks.specs.Calls.{SpendsDown, reads_ahead}
use Rattle.osm_blocks.specs.Frames.{IsDeviceFault, ReadsOften}
use Rattle.osm_blocks.specs.Places.{HasFile, Place, left_of}
use Rattle.osm_blocks.specs.Steps.Reading.{LacksFirst}

-- where a search stands: the first bytes have no LF, and what is left of the file is as before
pub record Searches (begun state : StoreState) (name : List ℕ) (old new : Place) (searched : ℕ) : Type 0 where
  pub frame : ReadsOften {T = Unit {0}} IsDeviceFault begun state (Ok tt)
  pub stage : state.stage ≡ begun.stage
  pub same : (file : List ℕ) → HasFile begun name file → left_of new file ≡ left_of old file
  pub lacks : LacksFirst searched new.unread
  pub calls : (file : List ℕ) → HasFile begun name file → SpendsDown (reads_ahead old file) (reads_ahead new file) begun.left state.left

-- a file stays known, and has the same bytes
pub has_still : {T : Type 0} (a b : StoreState) (x : T) (name file : List ℕ) → ReadsOften IsDeviceFault a b (Ok x) → HasFile a name file → HasFile b name file
has_still a b x name file frame has = record {
  known = subst (λ (t : Bool). IsTrue t) (sym frame.known) has.known;
  there = subst (λ (f : Files). f name ≡ Some file) (sym frame.files) has.there;
}
