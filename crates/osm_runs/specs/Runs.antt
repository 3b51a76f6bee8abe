-- What all runs over a store have in common.
use Rattle.std.specs.Prelude.{◌≡◌, ℕ, List, Option, Result, IfErr}
use Rattle.osm_store.specs.Files.{Files, HasFailed, HasFewer}
use Rattle.osm_store.specs.Frames.{CallsBetween, IsKnown, Makes, MakesAtMost, ReadsBetween}
use Rattle.osm_store.specs.Frames.{ReplacesBetween, StoreState}
use Rattle.osm_runs.specs.declared.fault.RunFault.{RunFault}
use Rattle.osm_runs.specs.declared.fault.RunFault.TheVariants.{ReadFault, WriteFault}

-- the device is the reason
abbrev pub IsDeviceFault : RunFault → Type 0
IsDeviceFault (ReadFault file) = Unit {0}
IsDeviceFault (WriteFault file) = Unit {0}
IsDeviceFault fault = ⊥

-- the device is the reason only if its count of failures rose, or was already at its greatest value
abbrev pub Blames : ℕ → ℕ → RunFault → Type 0
Blames old new fault = IsDeviceFault fault → HasFailed old new

-- the device is the reason only if fewer than that many calls were left
abbrev pub LacksCalls : ℕ → Option ℕ → RunFault → Type 0
LacksCalls calls left fault = IsDeviceFault fault → HasFewer calls left

-- that many calls
abbrev pub Calls : {T : Type 0} → ℕ → StoreState → StoreState → Result T RunFault → Type 0
Calls calls old new result = CallsBetween IsDeviceFault calls calls old new result

-- from `least` to `most` calls
abbrev pub CallsFromTo : {T : Type 0} → ℕ → ℕ → StoreState → StoreState → Result T RunFault → Type 0
CallsFromTo least most old new result = CallsBetween IsDeviceFault least most old new result

-- at most that many calls
abbrev pub CallsUpTo : {T : Type 0} → ℕ → StoreState → StoreState → Result T RunFault → Type 0
CallsUpTo most old new result = MakesAtMost IsDeviceFault most old new result

-- that many reads
abbrev pub Reads : {T : Type 0} → ℕ → StoreState → StoreState → Result T RunFault → Type 0
Reads calls old new result = ReadsBetween IsDeviceFault calls calls old new result

-- at most that many reads
abbrev pub ReadsUpTo : {T : Type 0} → ℕ → StoreState → StoreState → Result T RunFault → Type 0
ReadsUpTo most old new result = ReadsBetween IsDeviceFault 0 most old new result

-- at least that many reads
pub record ReadsAtLeast {T : Type 0} (least : ℕ) (old new : StoreState)
    (result : Result T RunFault) : Type 0 where
  pub files : new.files ≡ old.files
  pub makes : Makes IsDeviceFault least old new result

-- that many calls, and no file changes unless all is done
abbrev pub Replaces : {T : Type 0} → ℕ → StoreState → StoreState → Result T RunFault → Type 0
Replaces calls old new result = ReplacesBetween IsDeviceFault calls calls old new result

-- if it is known what the files hold, this holds of the file of that name and of a value
abbrev pub IfFileKnown : {T : Type 0} → StoreState → List ℕ → (Option (List ℕ) → T → Type 0) → T
    → Type 0
IfFileKnown store name holds value = IsKnown store → holds (store.files name) value

-- if it is known what the files hold, this holds of what they held and of what they hold now
abbrev pub IfFilesKnown : StoreState → StoreState → (Files → Files → Type 0) → Type 0
IfFilesKnown old new holds = IsKnown old → holds old.files new.files

-- why a run stops at the file of that name, by whether the files are known and by what it holds
abbrev pub StopsAt : StoreState → List ℕ → (Type 0 → Option (List ℕ) → RunFault → Type 0) → RunFault
    → Type 0
StopsAt store name stops = stops (IsKnown store) (store.files name)

-- if it is known what the files hold, this holds of how many calls were left and of the fault
abbrev pub RunsOut : {T : Type 0} → StoreState → Result T RunFault
    → (Option ℕ → RunFault → Type 0) → Type 0
RunsOut store result out = IfErr result (λ fault. IsKnown store → out store.left fault)
