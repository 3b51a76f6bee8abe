-- Steps of an audit. `known` says that it is known what the files hold.
use Rattle.std.specs.Prelude.{◌≡◌, ℕ, ◌+◌, ◌-◌, ◌<◌, ◌≤◌, List, [], ◌∷◌, ◌++◌, length, Option, Some}
use Rattle.std.specs.Prelude.{None, Bool, true, false, unwrap_or}
use Rattle.osm_model.specs.Limits.{max_file}
use Rattle.osm_state.specs.State.{StateValue}
use Rattle.osm_state.specs.StateFault.{FaultOf}
use Rattle.osm_state.specs.declared.paths.Suffix.{Suffix}
use Rattle.osm_state.specs.declared.paths.Suffix.TheVariants.{O5c, Opl, State}
use Rattle.osm_store.specs.Files.{Files, IsOver}
use Rattle.osm_runs.specs.Folder.{IsStateFile, IsThere, max_state}
use Rattle.osm_runs.specs.Following.{NamesOther}
use Rattle.osm_runs.specs.Forms.{IsFaulty}
use Rattle.osm_runs.specs.Names.{file_name_of}
use Rattle.osm_runs.specs.Folder.{IsBadState}
use Rattle.osm_runs.specs.declared.fault.FileName.{FileName}
use Rattle.osm_runs.specs.declared.fault.FileName.TheVariants.{Top, Sequence}
use Rattle.osm_runs.specs.declared.fault.RunFault.{RunFault}
use Rattle.osm_runs.specs.declared.fault.RunFault.TheVariants as faults
use Rattle.osm_runs.specs.declared.fault.RunFault.TheVariants.{WantOfMemory, ReadFault}
use Rattle.osm_runs.specs.declared.form.Form.{Form}
use Rattle.osm_audit.specs.Findings.{AreOfNumbers, Begins, HasChanges, IsLost, IsO5cRight}
use Rattle.osm_audit.specs.Findings.{IsO5cWrong, IsOplRight, IsOplWrong, noted}
use Rattle.osm_audit.specs.declared.changes.Held as held
use Rattle.osm_audit.specs.declared.changes.Held.{Held}
use Rattle.osm_audit.specs.declared.contents.Contents as contents
use Rattle.osm_audit.specs.declared.contents.Contents.{Contents}
use Rattle.osm_audit.specs.declared.finding.Cause.{Cause}
use Rattle.osm_audit.specs.declared.finding.Cause.TheVariants.{Absent, TooLarge, BadState, Mismatch}
use Rattle.osm_audit.specs.declared.finding.Cause.TheVariants.{TimeBack, BadChange, Differs}
use Rattle.osm_audit.specs.declared.finding.Found.{Found}
use Rattle.osm_audit.specs.declared.finding.Found.TheVariants.{Numbers}
use Rattle.osm_audit.specs.declared.numbers.Looked.{Looked}

-- what was read of a file, beside its limit
abbrev pub IsContents : ℕ → Option (List ℕ) → Contents → Type 0
IsContents limit told contents.TheVariants.Absent = told ≡ None
IsContents limit told contents.TheVariants.TooLarge = IsOver limit told
IsContents limit told (contents.TheVariants.Bytes bytes) = told ≡ Some bytes.items

-- the bytes that were read are within the limit
abbrev pub IsWithinLimit : ℕ → Contents → Type 0
IsWithinLimit limit (contents.TheVariants.Bytes bytes) = length bytes.items ≤ limit
IsWithinLimit limit read = Unit {0}

-- why a file isn't read: never for its size
abbrev pub ReadStops : FileName → RunFault → Type 0
ReadStops file WantOfMemory = Unit {0}
ReadStops file (ReadFault named) = named ≡ file
ReadStops file fault = ⊥

-- why the files of a number aren't read
abbrev pub NumberStops : ℕ → RunFault → Type 0
NumberStops number WantOfMemory = Unit {0}
NumberStops number (ReadFault file) = (suffix : Suffix) × (file ≡ Sequence number suffix)
NumberStops number fault = ⊥

-- why the files of a range aren't read
abbrev pub RangeStops : ℕ → ℕ → RunFault → Type 0
RangeStops from to WantOfMemory = Unit {0}
RangeStops from to (ReadFault file) =
    (number : ℕ) × (suffix : Suffix) × (from ≤ number) × (number ≤ to)
    × (file ≡ Sequence number suffix)
RangeStops from to fault = ⊥

-- the time isn't below that of the number before
abbrev pub IsNotBelow : ℕ → Option ℕ → Type 0
IsNotBelow time None = Unit {0}
IsNotBelow time (Some before) = before ≤ time

-- the time is below that of the number before
abbrev pub IsBelow : ℕ → Option ℕ → Type 0
IsBelow time None = ⊥
IsBelow time (Some before) = time < before

-- a state file isn't the number's
abbrev pub IsNoState : Option (List ℕ) → ℕ → Cause → Type 0
IsNoState told number Absent = told ≡ None
IsNoState told number TooLarge = IsOver max_state told
IsNoState told number (BadState cause) = IsBadState told cause
IsNoState told number Mismatch = NamesOther told number
IsNoState told number cause = ⊥

-- what is said of a state file, beside the time of the number before: the cause for which it is
-- wrong, and its time if it is the number's
abbrev pub IsStateSaid : Option (List ℕ) → ℕ → Option ℕ → Option Cause → Option ℕ → Type 0
IsStateSaid told number before None (Some time) =
    IsThere told (IsStateFile number time) × IsNotBelow time before
IsStateSaid told number before (Some TimeBack) (Some time) =
    IsThere told (IsStateFile number time) × IsBelow time before
IsStateSaid told number before (Some cause) None = IsNoState told number cause
IsStateSaid told number before cause time = ⊥

-- the time of the state of a number, none if its state file isn't the number's
abbrev pub IsTimeOf : Option (List ℕ) → ℕ → Option ℕ → Type 0
IsTimeOf told number None = (time : ℕ) → IsThere told (IsStateFile number time) → ⊥
IsTimeOf told number (Some time) = IsThere told (IsStateFile number time)

-- the time of the number before, none at the first number
abbrev pub IsTimeBefore : Files → List ℕ → ℕ → ℕ → Option ℕ → Type 0
IsTimeBefore files dir from number None =
    from < number → IsTimeOf (files (file_name_of dir (number - 1) State)) (number - 1) None
IsTimeBefore files dir from number (Some time) =
    (from < number)
    × IsTimeOf (files (file_name_of dir (number - 1) State)) (number - 1) (Some time)

-- what a change file holds
abbrev pub IsHeld : Form → Option (List ℕ) → Held → Type 0
IsHeld form told held.TheVariants.Absent = told ≡ None
IsHeld form told (held.TheVariants.Wrong TooLarge) = IsOver max_file told
IsHeld form told (held.TheVariants.Wrong (BadChange place why)) =
    IsThere told (λ bytes. IsFaulty form bytes place)
IsHeld form told (held.TheVariants.Wrong cause) = ⊥
IsHeld form told (held.TheVariants.Changes batch) = IsThere told (HasChanges form batch)

-- why what a file holds is wrong by itself
abbrev pub cause_in : Held → Option Cause
cause_in (held.TheVariants.Wrong cause) = Some cause
cause_in holds = None

-- what is said of an o5c file, beside an OPL file
abbrev pub IsO5cSaid : Option (List ℕ) → Option (List ℕ) → Option Cause → Type 0
IsO5cSaid o5c opl None = IsO5cRight o5c opl
IsO5cSaid o5c opl (Some cause) = IsO5cWrong o5c opl cause

-- what is said of an OPL file, beside an o5c file
abbrev pub IsOplSaid : Option (List ℕ) → Option (List ℕ) → Option Cause → Type 0
IsOplSaid o5c opl None = IsOplRight o5c opl
IsOplSaid o5c opl (Some cause) = IsOplWrong o5c opl cause

-- what is said of both
abbrev pub AreChangesSaid :
    Option (List ℕ) → Option (List ℕ) → Option Cause → Option Cause → Type 0
AreChangesSaid o5c opl first second = IsO5cSaid o5c opl first × IsOplSaid o5c opl second

-- what is said of a time that is the number's
abbrev pub IsTimeSaid : ℕ → Option ℕ → Option Cause → Type 0
IsTimeSaid time before None = IsNotBelow time before
IsTimeSaid time before (Some TimeBack) = IsBelow time before
IsTimeSaid time before (Some cause) = ⊥

-- the newest state, if there is one
abbrev pub IsTopRead : Option (List ℕ) → Option StateValue → Type 0
IsTopRead told None = (number time : ℕ) → IsThere told (IsStateFile number time) → ⊥
IsTopRead told (Some s) = IsThere told (IsStateFile s.sequence s.time)

-- what is wrong with the newest state, by what was read of it
abbrev pub ContentsStop : Contents → RunFault → Type 0
ContentsStop contents.TheVariants.Absent (faults.Absent file) = file ≡ Top
ContentsStop contents.TheVariants.TooLarge (faults.TooLarge file) = file ≡ Top
ContentsStop (contents.TheVariants.Bytes bytes) (faults.BadState file cause) =
    (file ≡ Top) × FaultOf bytes.items cause
ContentsStop read fault = ⊥

-- the cause for which the newest state is wrong, beside the time of the last number's own state:
-- they are compared only if there are both, and it is the last number's
abbrev pub IsTopCause : Option StateValue → ℕ → Option ℕ → Option Cause → Type 0
IsTopCause (Some s) to (Some time) None = s.sequence ≡ to → s.time ≡ time
IsTopCause (Some s) to (Some time) (Some Differs) = (s.sequence ≡ to) × (s.time ≡ time → ⊥)
IsTopCause (Some s) to (Some time) (Some cause) = ⊥
IsTopCause top to time None = Unit {0}
IsTopCause top to time (Some cause) = ⊥

-- what is said of the state and the o5c file of a number says that no file of it is there
abbrev pub is_said_lost : Option Cause → Option Cause → Bool
is_said_lost (Some Absent) (Some Absent) = true
is_said_lost state o5c = false

-- the range that ends at a number, if there is one
abbrev pub ranged : Option ℕ → ℕ → List Found
ranged None last = []
ranged (Some first) last = Numbers first last ∷ []

-- the findings of a number that has a file
abbrev pub noted_all : ℕ → Option Cause → Option Cause → Option Cause → List Found
noted_all number state o5c opl = noted number (Sequence number State) state
    ++ (noted number (Sequence number O5c) o5c ++ noted number (Sequence number Opl) opl)

-- a number that is lost is the first of a range, or is added to the one before it
pub record Extends (number : ℕ) (lost : Option ℕ) (old new : List Found) (next : Option ℕ) : Type 0
  where
    pub same : new ≡ old
    pub first : next ≡ Some (unwrap_or lost number)

-- before the findings of another number that range ends
pub record Ends (number : ℕ) (lost : Option ℕ) (said old new : List Found) (next : Option ℕ)
    : Type 0 where
  pub more : new ≡ (old ++ ranged lost (number - 1)) ++ said
  pub none : next ≡ None

abbrev pub AddsBy : Bool → ℕ → Option ℕ → List Found → List Found → List Found → Option ℕ → Type 0
AddsBy true number lost said old new next = Extends number lost old new next
AddsBy false number lost said old new next = Ends number lost said old new next

-- what is said of a number is added to the findings; `lost` and `next` are the first numbers of the
-- ranges that aren't ended, before it and with it
abbrev pub AddsNumber : ℕ → Option ℕ → Option Cause → Option Cause → Option Cause
    → List Found → List Found → Option ℕ → Type 0
AddsNumber number lost state o5c opl old new next =
    AddsBy (is_said_lost state o5c) number lost (noted_all number state o5c opl) old new next

-- a number is looked at after those before it
pub record IsLookedAt (files : Files) (dir : List ℕ) (number : ℕ) (before : Looked)
    (old new : List Found) (after : Looked) : Type 0 where
  pub state : Option Cause
  pub o5c : Option Cause
  pub opl : Option Cause
  pub state_said : IsStateSaid (files (file_name_of dir number State)) number before.time state
      after.time
  pub changes_said : AreChangesSaid (files (file_name_of dir number O5c))
      (files (file_name_of dir number Opl)) o5c opl
  pub adds : AddsNumber number before.lost state o5c opl old new after.lost

-- the findings of the numbers up to the one before `next`, but for the range that isn't ended
abbrev pub AreOpen : Files → List ℕ → ℕ → ℕ → Option ℕ → List Found → Type 0
AreOpen files dir from next None found =
    AreOfNumbers files dir from next found × Begins files dir from next
AreOpen files dir from next (Some first) found =
    AreOfNumbers files dir from first found × Begins files dir from first × (first < next)
    × ((k : ℕ) → first ≤ k → k < next → IsLost files dir k)

-- the numbers up to the one before `next` are looked at
pub record IsLookedUpTo (files : Files) (dir : List ℕ) (from next : ℕ) (found : List Found)
    (looked : Looked) : Type 0 where
  pub numbers : AreOpen files dir from next looked.lost found
  pub last : IsTimeBefore files dir from next looked.time

-- the findings of the numbers up to the one before `next`, and the time of the last one's state
pub record AreLookedThrough (files : Files) (dir : List ℕ) (from next : ℕ) (found : List Found)
    (time : Option ℕ) : Type 0 where
  pub numbers : AreOfNumbers files dir from next found
  pub last : IsTimeBefore files dir from next time
