-- What the steps of a beginning do to a store: what they leave, why they stop, and how many calls
-- they make. `w` is what the save begins with; `spells`, `goes_wrong` and `is_long` are what the
-- form of the data file says of bytes.
use Rattle.std.specs.Prelude.{◌≡◌, ℕ, ◌⊎◌, Bool, true, false, List, Option, None, Result}
use Rattle.std.specs.Prelude.{IfErr, OnOk}
use Rattle.osm_model.specs.Change.{ChangeValue}
use Rattle.osm_model.specs.Filter.{FilterValue}
use Rattle.osm_store.specs.Files.{Spends}
use Rattle.osm_store.specs.Frames.{IsKnown, MakesAtMost, StoreState}
use Rattle.osm_blocks.specs.Frames.{ReadsOften}
use Rattle.osm_merge.specs.Calls.{bytes_in}
use Rattle.osm_merge.specs.Frames.{ReplacesOften}
use Rattle.osm_data.specs.Reading.{read_calls}
use Rattle.osm_runs.specs.DataForms.{place_of_data, spells_data}
use Rattle.osm_runs.specs.Runs.{IsDeviceFault}
use Rattle.osm_runs.specs.Writing.{PutStops}
use Rattle.osm_runs.specs.declared.fault.FileName.TheVariants.{Save}
use Rattle.osm_runs.specs.declared.fault.RunFault.{RunFault}
use Rattle.osm_beginning.specs.Beginning.{is_long_data}
use Rattle.osm_beginning.specs.Keeping.{CallsOften}
use Rattle.osm_beginning.specs.Steps.Emptying.{BesideStops, DropsOrLeaves, IsPut, IsPutAlone}
use Rattle.osm_beginning.specs.Steps.Emptying.{LeavesAbove, LeavesBeside}
use Rattle.osm_beginning.specs.Steps.Passes.{BaseStops, FromStops, IsCheckedAfter, IsFirstCount}
use Rattle.osm_beginning.specs.Steps.Passes.{IsKept, IsNearBase, IsReplaced}
use Rattle.osm_beginning.specs.declared.begin.Beginning.{Beginning}

-- ---- the data file

-- why it isn't read
abbrev pub DataStops : (List ℕ → ℕ → Type 0) → (List ℕ → Type 0) → List ℕ → StoreState → RunFault
    → Type 0
DataStops goes_wrong is_long base old = BaseStops goes_wrong is_long (IsKnown old) (old.files base)

-- at most so many calls are made, by how many bytes it has
abbrev pub MakesUpTo : {T : Type 0} → (ℕ → ℕ) → List ℕ → StoreState → StoreState
    → Result T RunFault → Type 0
MakesUpTo calls base old new result = IsKnown old
    → MakesAtMost IsDeviceFault (calls (bytes_in (old.files base))) old new result

-- it is read once, and nothing is written
pub record ReadsData {T : Type 0} (goes_wrong : List ℕ → ℕ → Type 0) (is_long : List ℕ → Type 0)
    (base : List ℕ) (old new : StoreState) (result : Result T RunFault) : Type 0 where
  pub stops : IfErr result (DataStops goes_wrong is_long base old)
  pub stage : new.stage ≡ old.stage
  pub frame : ReadsOften IsDeviceFault old new result
  pub spends : OnOk result (Spends 1 old.left new.left)
  pub calls : MakesUpTo read_calls base old new result

-- if it spells objects, so many of them are kept
abbrev pub CountsFirst : (List ℕ → List ChangeValue → Type 0) → FilterValue → List ℕ → StoreState
    → ℕ → Type 0
CountsFirst spells f base old count = IsKnown old → IsFirstCount spells f (old.files base) count

-- it spells objects, if that is to be known after the fault
abbrev pub IsCheckedIn : RunFault → (List ℕ → List ChangeValue → Type 0) → Beginning → StoreState
    → Type 0
IsCheckedIn fault spells w old =
    IsCheckedAfter fault spells w.filter.now (IsKnown old) (old.files w.base.now)

-- its newest object is near the time of the state
abbrev pub IsNearIn : (List ℕ → List ChangeValue → Type 0) → Beginning → StoreState → Type 0
IsNearIn spells w old = IsKnown old → IsNearBase spells w.state_time (old.files w.base.now)

-- ---- the save

-- bytes are appended to the file that is to replace it, by so many calls at most
pub record Appends (most : ℕ) (old new : StoreState) (result : Result (Unit {0}) RunFault) : Type 0
  where
    pub stops : IfErr result (PutStops Save)
    pub frame : ReadsOften IsDeviceFault old new result
    pub calls : MakesAtMost IsDeviceFault most old new result

-- it is replaced, and no other file is
abbrev pub Saves : (List ℕ → List ChangeValue → Type 0) → Beginning → StoreState → StoreState
    → Type 0
Saves spells w old new = IsKnown old → IsKept spells w.filter.now (old.files w.base.now)
    (IsReplaced w.head w.filter.now w.save.now old.files new.files)

-- so it is, by at least so many calls, and at most so many, by how many bytes the data file has
pub record SavesWithin (least : ℕ) (calls_of : ℕ → ℕ) (spells : List ℕ → List ChangeValue → Type 0)
    (w : Beginning) (old new : StoreState) (result : Result (Unit {0}) RunFault) : Type 0 where
  pub replaced : OnOk result (Saves spells w old new)
  pub near : OnOk result (IsNearIn spells w old)
  pub frame : ReplacesOften IsDeviceFault old new result
  pub spends : OnOk result (Spends least old.left new.left)
  pub calls : MakesUpTo calls_of w.base.now old new result

-- why it isn't replaced
abbrev pub StopsIn : (List ℕ → List ChangeValue → Type 0) → (List ℕ → ℕ → Type 0)
    → (List ℕ → Type 0) → Beginning → StoreState → RunFault → Type 0
StopsIn spells goes_wrong is_long w old = FromStops spells goes_wrong is_long w.filter.now
    w.state_time (IsKnown old) (old.files w.base.now)

-- the same for a data file of the form that is told
abbrev pub SaveStops : Beginning → StoreState → RunFault → Type 0
SaveStops w = StopsIn (spells_data w.form) (place_of_data w.form) (is_long_data w.form) w

-- no file is left begun, if none was
abbrev pub Drops : StoreState → StoreState → Type 0
Drops old new = IsKnown old → old.stage ≡ None → new.stage ≡ None

-- ---- the journal beside it

-- the save is replaced, and the journal says nothing of it. At least two calls are made, and at
-- most so many, by how many bytes the data file has
pub record PutsWithin (calls_of : ℕ → ℕ) (w : Beginning) (old new : StoreState)
    (result : Result (Unit {0}) RunFault) : Type 0 where
  pub put : OnOk result (IsKnown old → IsKept (spells_data w.form) w.filter.now
      (old.files w.base.now) (IsPut w.head w.filter.now w.save.now old.files new.files))
  pub near : OnOk result (IsNearIn (spells_data w.form) w old)
  pub frame : CallsOften IsDeviceFault old new result
  pub spends : OnOk result (Spends 2 old.left new.left)
  pub calls : MakesUpTo calls_of w.base.now old new result

-- the save alone is replaced
abbrev pub PutsAlone : Beginning → StoreState → StoreState → Type 0
PutsAlone w old new = IsPutAlone (spells_data w.form) w.head w.filter.now (old.files w.base.now)
    w.save.now old.files new.files

-- what is left after a fault
abbrev pub LeavesIn : Beginning → StoreState → StoreState → RunFault → Type 0
LeavesIn w old new fault = IsKnown old → LeavesBeside (spells_data w.form) w.head w.filter.now
    (old.files w.base.now) w.save.now old.files new.files fault

-- what is left if the journal isn't emptied after the save: all as it was, or the new save beside
-- that journal. If it isn't one of the save of before, the fault tells which, and where it ends
abbrev pub LeavesLast : Bool → ℕ → Beginning → StoreState → StoreState → RunFault → Type 0
LeavesLast true last w old new fault =
    IsKnown old → (new.files ≡ old.files) ⊎ PutsAlone w old new
LeavesLast false last w old new fault = IsKnown old → LeavesAbove (spells_data w.form) w.head
    w.filter.now (old.files w.base.now) w.save.now old.files new.files last fault

-- why no save begins beside a journal that holds that
abbrev pub StopsBeside : Beginning → StoreState → Option (List ℕ) → RunFault → Type 0
StopsBeside w old journal = BesideStops (spells_data w.form) (place_of_data w.form)
    (is_long_data w.form) w.head w.filter.now w.state_time (IsKnown old) (old.files w.base.now)
    journal

-- the journal of that name is as it was, or is empty, and it is told where it ended
abbrev pub DropsAt : List ℕ → Option ℕ → StoreState → StoreState → Option ℕ → Type 0
DropsAt name last old new told =
    IsKnown old → DropsOrLeaves last (old.files name) (new.files name) told
