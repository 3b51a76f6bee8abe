-- A save that a run reads, and why it isn't read. `known` says that it is known what the files
-- hold, and `told` is then what the save holds, none if there is no such file.
use Rattle.std.specs.Prelude.{◌≡◌, ℕ, ◌⊎◌, List, Option, Some, None}
use Rattle.osm_save.specs.Save.{SpellsSave}
use Rattle.osm_save.specs.declared.save.Saved.{Saved}
use Rattle.osm_merge.specs.Checking.{IsHugeFile, IsNoSave}
use Rattle.osm_merge.specs.declared.fault.MergeFault.{MergeFault}
use Rattle.osm_merge.specs.declared.fault.MergeFault.TheVariants as merges
use Rattle.osm_runs.specs.declared.fault.FileName.TheVariants.{Save}
use Rattle.osm_runs.specs.declared.fault.RunFault.{RunFault}
use Rattle.osm_runs.specs.declared.fault.RunFault.TheVariants.{Absent, BadSave, Changed}
use Rattle.osm_runs.specs.declared.fault.RunFault.TheVariants.{ReadFault, TooLarge, WantOfMemory}
use Rattle.osm_runs.specs.declared.fault.RunFault.TheVariants.{WriteFault}

-- the file is the save text of something
pub record IsSaveText (told : Option (List ℕ)) : Type 0 where
  pub file : List ℕ
  pub there : told ≡ Some file
  pub saved : Saved
  pub spells : SpellsSave file saved

-- the save has more bytes than 64 bits count, or a line of more than 256 MiB, as no save text has
abbrev pub IsTooLarge : Option (List ℕ) → Type 0
IsTooLarge told = IsHugeFile told ⊎ IsNoSave told

-- the fault of a save text as one of a run that reads it
abbrev pub read_fault_of : MergeFault → RunFault
read_fault_of merges.ReadFault = ReadFault Save
read_fault_of merges.WriteFault = ReadFault Save
read_fault_of merges.WantOfMemory = WantOfMemory
read_fault_of merges.NoSave = Absent Save
read_fault_of (merges.BadSave line) = BadSave line
read_fault_of merges.LongLine = TooLarge Save
read_fault_of merges.TooLarge = TooLarge Save
read_fault_of merges.Changed = Changed Save

-- and as one of a run that writes it too
abbrev pub write_fault_of : MergeFault → RunFault
write_fault_of merges.WriteFault = WriteFault Save
write_fault_of fault = read_fault_of fault

-- why a save isn't read
abbrev pub ReadStops : Type 0 → Option (List ℕ) → RunFault → Type 0
ReadStops known told WantOfMemory = Unit {0}
ReadStops known told (ReadFault file) = file ≡ Save
ReadStops known told (Absent file) = (file ≡ Save) × (known → told ≡ None)
ReadStops known told (TooLarge file) = (file ≡ Save) × (known → IsTooLarge told)
ReadStops known told (BadSave line) = known → IsNoSave told
ReadStops known told (Changed file) = (file ≡ Save) × (known → ⊥)
ReadStops known told fault = ⊥
