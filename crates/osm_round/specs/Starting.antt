-- Why a save isn't read, checked, merged or made. `known` says that it is known what the files
-- hold, and `given` is the filter that the run was given.
use Rattle.std.specs.Prelude.{◌≡◌, ◌≢◌, ℕ, ◌⊎◌, List, Option, Some}
use Rattle.osm_model.specs.Filter.{FilterValue}
use Rattle.osm_save.specs.Save.{SpellsSave}
use Rattle.osm_save.specs.declared.save.Saved.{Saved}
use Rattle.osm_net.specs.Net.{NetValue}
use Rattle.osm_merge.specs.Merging.{HasTooMany}
use Rattle.osm_runs.specs.Checking.{IsTooLarge, ReadStops}
use Rattle.osm_runs.specs.declared.fault.FileName.TheVariants.{Save}
use Rattle.osm_runs.specs.declared.fault.RunFault.{RunFault}
use Rattle.osm_runs.specs.declared.fault.RunFault.TheVariants.{Absent, TooLarge, WantOfMemory}
use Rattle.osm_runs.specs.declared.fault.RunFault.TheVariants.{WriteFault}

-- if the save is a save text, it was saved under another filter
pub record BeginsOther (given : FilterValue) (told : Option (List ℕ)) : Type 0 where
  pub bytes : List ℕ
  pub there : told ≡ Some bytes
  pub other : (v : Saved) → SpellsSave bytes v → v.filter ≢ given

-- why a save that may be absent isn't read
abbrev pub WholeStops : Type 0 → Option (List ℕ) → RunFault → Type 0
WholeStops known told (Absent file) = ⊥
WholeStops known told fault = ReadStops known told fault

-- why a save isn't merged with net changes
abbrev pub MergeStops : Type 0 → Option (List ℕ) → NetValue → RunFault → Type 0
MergeStops known told n (WriteFault file) = file ≡ Save
MergeStops known told n (TooLarge file) =
    (file ≡ Save) × (known → IsTooLarge told ⊎ HasTooMany told n)
MergeStops known told n fault = ReadStops known told fault

-- no save is made
abbrev pub IsMakingFault : RunFault → Type 0
IsMakingFault fault = (fault ≡ WantOfMemory) ⊎ (fault ≡ WriteFault Save)
