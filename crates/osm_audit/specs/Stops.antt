-- Why there is no audit: never for what a file of a number holds. `known` says that it is known
-- what the files hold.
use Rattle.std.specs.Prelude.{◌≡◌, ℕ, ◌≤◌, ◌⊎◌, List, Option, Some, None}
use Rattle.osm_state.specs.declared.paths.Suffix.{Suffix}
use Rattle.osm_store.specs.Files.{Files, IsOver}
use Rattle.osm_runs.specs.Folder.{IsBadState, max_state}
use Rattle.osm_runs.specs.Names.{top_name_of}
use Rattle.osm_runs.specs.declared.fault.FileName.{FileName}
use Rattle.osm_runs.specs.declared.fault.FileName.TheVariants.{Top, Sequence}
use Rattle.osm_runs.specs.declared.fault.RunFault.{RunFault}
use Rattle.osm_runs.specs.declared.fault.RunFault.TheVariants.{Absent, BadRange, BadState}
use Rattle.osm_runs.specs.declared.fault.RunFault.TheVariants.{ReadFault, TooLarge, WantOfMemory}
use Rattle.osm_audit.specs.Audit.{IsLast, IsRange}

-- a range that is given is one, so something may be read
abbrev pub MayRead : ℕ → Option ℕ → Type 0
MayRead from None = Unit {0}
MayRead from (Some to) = IsRange from (Some to) to

-- a file of a number of the range
pub record IsOfRange (known : Type 0) (from : ℕ) (to : Option ℕ) (dir : List ℕ) (files : Files)
    (file : FileName) : Type 0 where
  pub number : ℕ
  pub suffix : Suffix
  pub file_is : file ≡ Sequence number suffix
  pub above : from ≤ number
  pub until : known → (last : ℕ) → IsLast to dir files last → number ≤ last

-- what is wrong with the newest state
abbrev pub TopStops : Type 0 → Option (List ℕ) → RunFault → Type 0
TopStops known told (Absent file) = (file ≡ Top) × (known → told ≡ None)
TopStops known told (TooLarge file) = (file ≡ Top) × (known → IsOver max_state told)
TopStops known told (BadState file cause) = (file ≡ Top) × (known → IsBadState told cause)
TopStops known told fault = ⊥

-- why there is no audit: the range, memory, the device, or if no last number is given the newest
-- state
abbrev pub AuditStops : Type 0 → ℕ → Option ℕ → List ℕ → Files → RunFault → Type 0
AuditStops known from None dir files BadRange =
    known → (last : ℕ) × IsLast None dir files last × (IsRange from None last → ⊥)
AuditStops known from (Some to) dir files BadRange = IsRange from (Some to) to → ⊥
AuditStops known from to dir files WantOfMemory = MayRead from to
AuditStops known from to dir files (ReadFault file) =
    MayRead from to × ((file ≡ Top) ⊎ IsOfRange known from to dir files file)
AuditStops known from None dir files fault = TopStops known (files (top_name_of dir)) fault
AuditStops known from (Some to) dir files fault = ⊥
