-- What the program does for the word `audit`: it looks whether a folder is whole, and prints what
-- is wrong. `old` and `new` are what is seen of the store, `from` and `to` the words of the range.
use Rattle.std.specs.Prelude.{◌≡◌, ℕ, ◌↔◌, ◌⊎◌, List, [], Option, take, unwrap_or}
use Rattle.std.specs.Borrow.{Bor}
use Rattle.std.specs.Io.KnownBytes.{Appends}
use Rattle.osm_runs.specs.JsonLine.{json_line}
use Rattle.osm_store.specs.Files.{SpendsAtMost}
use Rattle.osm_store.specs.Frames.{IsKnown, StoreState}
use Rattle.osm_runs.specs.Runs.{Blames, LacksCalls}
use Rattle.osm_runs.specs.Writing.{WritingFault}
use Rattle.osm_runs.specs.declared.fault.RunFault.{RunFault}
use Rattle.osm_runs.specs.declared.fault.RunFault.TheVariants.{WantOfMemory}
use Rattle.osm_runs.specs.declared.options.Layout.{Layout}
use Rattle.osm_runs.specs.declared.options.Layout.TheVariants.{Json, Lines}
use Rattle.osm_audit.specs.Audit.{AuditValue, IsAsked, IsAudit, IsLast, audit_calls}
use Rattle.osm_audit.specs.Reports.{IsAuditLine, IsAuditText, fault_data, findings_status}
use Rattle.osm_audit.specs.Stops.{AuditStops}
use Rattle.osm_audit.specs.Whole.{IsWhole}
use Rattle.osm_repl.specs.Checks.{IsNumber, RefusesRange}
use Rattle.osm_repl.specs.Execution.{IsTold}

-- the audit, as it is told in that layout
abbrev pub IsToldIn : Layout → AuditValue → List ℕ → Type 0
IsToldIn Lines a text = IsAuditText a text
IsToldIn Json a text = IsAuditLine a text

-- the numbers of the range that the words ask for
pub record IsRangeOf (from to : Option (Bor (List ℕ))) (first last : Option ℕ) : Type 0 where
  pub first_is : IsNumber from first
  pub last_is : IsNumber to last

-- an audit of the folder from the first number to the last one
pub record IsAuditOf (old new : StoreState) (dir : List ℕ) (first last : Option ℕ)
    (a : AuditValue) : Type 0 where
  pub found : IsKnown old → IsAudit last dir old.files a
  pub whole : IsKnown old → (a.findings ≡ []) ↔ IsWhole old.files dir a.from a.to
  pub asked : IsAsked (unwrap_or first 1) last a
  pub calls : IsKnown old → (n : ℕ) → IsLast last dir old.files n
      → SpendsAtMost (audit_calls (unwrap_or first 1) n) old.left new.left

-- what was found was printed, and the status is 1 exactly if that is something
pub record IsAuditPrinted (layout : Layout) (a : AuditValue) (printed after : Option (List ℕ))
    (status : ℕ) : Type 0 where
  pub text : List ℕ
  pub told : IsToldIn layout a text
  pub all : Appends printed after text
  pub status_is : status ≡ findings_status a.findings

-- a range was audited, and what was found was printed
pub record IsRangeAudited (old new : StoreState) (layout : Layout) (dir : List ℕ)
    (first last : Option ℕ) (printed after : Option (List ℕ)) (status : ℕ) : Type 0 where
  pub audit : AuditValue
  pub is_audit : IsAuditOf old new dir first last audit
  pub is_printed : IsAuditPrinted layout audit printed after status

-- the range that the words ask for was audited, and what was found was printed
pub record IsAudited (old new : StoreState) (layout : Layout) (dir : List ℕ)
    (from to : Option (Bor (List ℕ))) (printed after : Option (List ℕ)) (status : ℕ) :
    Type 0 where
  pub first : Option ℕ
  pub last : Option ℕ
  pub range : IsRangeOf from to first last
  pub done : IsRangeAudited old new layout dir first last printed after status

-- the line of JSON of a refused audit, or a prefix of it if standard output didn't take all
pub record IsAuditFaultLine (printed after : Option (List ℕ)) : Type 0 where
  pub said : List ℕ
  pub count : ℕ
  pub line : Appends printed after (take count (json_line (fault_data said)))

-- what is printed of a fault: nothing in lines, and in JSON its line, unless there is no memory for
-- that
abbrev pub TellsAuditFault : Layout → RunFault → Option (List ℕ) → Option (List ℕ) → Type 0
TellsAuditFault Lines fault printed after = after ≡ printed
TellsAuditFault Json fault printed after =
    (after ≡ printed) ⊎ (IsTold fault × IsAuditFaultLine printed after)

-- a word of the range says no number, and nothing was read or printed
pub record IsRangeRefused (old new : StoreState) (from to : Option (Bor (List ℕ)))
    (printed after : Option (List ℕ)) (fault : RunFault) : Type 0 where
  pub refuses : RefusesRange from to fault
  pub unread : new ≡ old
  pub unprinted : after ≡ printed

-- there is no audit of a range, and nothing was printed but perhaps the line of its fault
pub record IsRangeStopped (old new : StoreState) (layout : Layout) (dir : List ℕ)
    (first last : Option ℕ) (printed after : Option (List ℕ)) (fault : RunFault) : Type 0 where
  pub stops : AuditStops (IsKnown old) (unwrap_or first 1) last dir old.files fault
  pub device : Blames old.failures new.failures fault
  pub lacks : IsKnown old → (n : ℕ) → IsLast last dir old.files n
      → LacksCalls (audit_calls (unwrap_or first 1) n) old.left fault
  pub told : TellsAuditFault layout fault printed after

-- standard output didn't take all that was found
pub record IsCutAt (layout : Layout) (a : AuditValue) (printed after : Option (List ℕ))
    (fault : RunFault) : Type 0 where
  pub text : List ℕ
  pub told : IsToldIn layout a text
  pub cut : WritingFault printed after text fault

-- there was no memory to tell what was found, or not all of it was printed
abbrev pub IsAuditUnprinted : Layout → AuditValue → Option (List ℕ) → Option (List ℕ) → RunFault
    → Type 0
IsAuditUnprinted layout a printed after fault =
    ((fault ≡ WantOfMemory) × (after ≡ printed)) ⊎ IsCutAt layout a printed after fault

-- a range was audited, but what was found wasn't printed
pub record IsRangeUnprinted (old new : StoreState) (layout : Layout) (dir : List ℕ)
    (first last : Option ℕ) (printed after : Option (List ℕ)) (fault : RunFault) : Type 0 where
  pub audit : AuditValue
  pub is_audit : IsAuditOf old new dir first last audit
  pub unprinted : IsAuditUnprinted layout audit printed after fault

-- why a range isn't audited
abbrev pub IsRangeNotAudited : StoreState → StoreState → Layout → List ℕ → Option ℕ → Option ℕ
    → Option (List ℕ) → Option (List ℕ) → RunFault → Type 0
IsRangeNotAudited old new layout dir first last printed after fault =
    IsRangeStopped old new layout dir first last printed after fault
    ⊎ IsRangeUnprinted old new layout dir first last printed after fault

-- the range that the words ask for isn't audited
pub record IsRangeUndone (old new : StoreState) (layout : Layout) (dir : List ℕ)
    (from to : Option (Bor (List ℕ))) (printed after : Option (List ℕ)) (fault : RunFault) :
    Type 0 where
  pub first : Option ℕ
  pub last : Option ℕ
  pub range : IsRangeOf from to first last
  pub not_done : IsRangeNotAudited old new layout dir first last printed after fault

-- why an audit isn't done: a word is wrong, or its range isn't audited
abbrev pub IsNotAudited : StoreState → StoreState → Layout → List ℕ → Option (Bor (List ℕ))
    → Option (Bor (List ℕ)) → Option (List ℕ) → Option (List ℕ) → RunFault → Type 0
IsNotAudited old new layout dir from to printed after fault =
    IsRangeRefused old new from to printed after fault
    ⊎ IsRangeUndone old new layout dir from to printed after fault
