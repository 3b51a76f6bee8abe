-- Lines that are read one after the other.
use Rattle.std.proofs.Common.{◌≡◌, ℕ, ◌≤◌, List, ◌++◌}
use Rattle.std.specs.Prelude.{Ok}
use Rattle.osm_model.specs.Change.{ChangeValue}
use Rattle.osm_store.specs.Frames.{StoreState}
use Rattle.osm_blocks.specs.Calls.{SpendsDown}
use Rattle.osm_blocks.specs.Frames.{ReadsOften}
use Rattle.osm_blocks.specs.Places.{HasFile}
use Rattle.osm_data.specs.Reading.{IsDeviceFault}
use Rattle.osm_data.specs.OplReading.{HasRead, calls_after}
use Rattle.osm_data.specs.declared.opl_data.OplData.{OplData}

-- what was read of a file is more by the lines that were passed
pub record Fills (begun state : StoreState) (name : List ℕ) (old new : OplData) (xs ys : List ChangeValue) : Type 0 where
  pub frame : ReadsOften {T = Unit {0}} IsDeviceFault begun state (Ok tt)
  pub stage : state.stage ≡ begun.stage
  pub reads : (file : List ℕ) (done : List ChangeValue) → HasFile begun name file → HasRead old file (done ++ xs) → HasRead new file (done ++ ys)
  pub calls : (file : List ℕ) → HasFile begun name file → SpendsDown (calls_after old file) (calls_after new file) begun.left state.left
  pub grows : old.so_far.bytes ≤ new.so_far.bytes
  pub fits : new.so_far.bytes ≤ 18446744073709551615
