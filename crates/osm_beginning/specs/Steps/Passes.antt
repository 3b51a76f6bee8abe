-- The two passes over a data file, and why they end early. `spells`, `goes_wrong` and `is_long` are
-- what the form of the data file says of bytes. `told` is what the data file holds, none if there
-- is no such file, and `known` says that this is known.
use Rattle.std.specs.Prelude.{◌≡◌, ℕ, ◌+◌, ◌<◌, ◌≤◌, ◌⊎◌, List, [], ◌∷◌, ◌++◌, length, map}
use Rattle.std.specs.Prelude.{codes, decimal, Option, Some, None}
use Rattle.osm_model.specs.Change.{ChangeValue}
use Rattle.osm_model.specs.Filter.{FilterValue}
use Rattle.osm_opl.specs.Written.{line_text}
use Rattle.osm_save.specs.Head.{head_lines}
use Rattle.osm_save.specs.Lines.{ended}
use Rattle.osm_save.specs.declared.head.Head.{Head}
use Rattle.osm_save.specs.declared.version.Version.TheVariants.{Three}
use Rattle.osm_follow.specs.Begin.{kept_objects}
use Rattle.osm_store.specs.Files.{Files, Puts}
use Rattle.osm_store.specs.Frames.{StoreState}
use Rattle.osm_blocks.specs.Places.{HasFile, IsHuge}
use Rattle.osm_data.specs.Counting.{IsCountOf}
use Rattle.osm_data.specs.Reading.{Holds, read_calls}
use Rattle.osm_data.specs.declared.fault.DataFault.{DataFault}
use Rattle.osm_data.specs.declared.fault.DataFault.TheVariants as faults
use Rattle.osm_beginning.specs.Beginning.{most_after, most_kept, newest_time}
use Rattle.osm_runs.specs.declared.fault.FileName.TheVariants.{Base, Save}
use Rattle.osm_runs.specs.declared.fault.RunFault.{RunFault}
use Rattle.osm_runs.specs.declared.fault.RunFault.TheVariants.{WantOfMemory, ReadFault, TooLarge}
use Rattle.osm_runs.specs.declared.fault.RunFault.TheVariants.{Absent, BadChange, Changed}
use Rattle.osm_runs.specs.declared.fault.RunFault.TheVariants.{OlderState, WriteFault}

-- the fault of a data file as one of a run
abbrev pub base_fault_of : DataFault → RunFault
base_fault_of faults.Device = ReadFault Base
base_fault_of faults.WantOfMemory = WantOfMemory
base_fault_of faults.NoFile = Absent Base
base_fault_of (faults.BadData place why) = BadChange Base place why
base_fault_of faults.LongPart = TooLarge Base
base_fault_of faults.TooLarge = TooLarge Base

-- a known data file is being read, and these objects were read so far
pub record IsReading {D : Type 0} (has_read : D → List ℕ → List ChangeValue → Type 0)
    (state : StoreState) (name : List ℕ) (reader : D) : Type 0 where
  pub file : List ℕ
  pub has : HasFile state name file
  pub done : List ChangeValue
  pub read : has_read reader file done

-- why a data file isn't read
abbrev pub BaseStops : (List ℕ → ℕ → Type 0) → (List ℕ → Type 0) → Type 0 → Option (List ℕ)
    → RunFault → Type 0
BaseStops goes_wrong is_long known told WantOfMemory = Unit {0}
BaseStops goes_wrong is_long known told (ReadFault Base) = Unit {0}
BaseStops goes_wrong is_long known told (Absent Base) = known → told ≡ None
BaseStops goes_wrong is_long known told (TooLarge Base) =
    known → Holds (λ bytes. is_long bytes ⊎ IsHuge bytes) told
BaseStops goes_wrong is_long known told (BadChange Base place why) =
    known → Holds (λ bytes. goes_wrong bytes place) told
BaseStops goes_wrong is_long known told fault = ⊥

-- the data file spells objects, and this holds of those that the filter keeps
pub record IsKept (spells : List ℕ → List ChangeValue → Type 0) (f : FilterValue)
    (told : Option (List ℕ)) (holds : List ChangeValue → Type 0) : Type 0 where
  pub bytes : List ℕ
  pub there : told ≡ Some bytes
  pub objects : List ChangeValue
  pub spelled : spells bytes objects
  pub holds_of : holds (kept_objects f objects)

-- the data file spells objects, and that is the newest time of them
pub record HasNewest (spells : List ℕ → List ChangeValue → Type 0) (told : Option (List ℕ))
    (newest : ℕ) : Type 0 where
  pub bytes : List ℕ
  pub there : told ≡ Some bytes
  pub objects : List ChangeValue
  pub spelled : spells bytes objects
  pub newest_is : newest ≡ newest_time objects

-- the newest time is at most eight days after that one, if there is one to compare it with
abbrev pub IsNear : Option ℕ → ℕ → Type 0
IsNear None newest = Unit {0}
IsNear (Some time) newest = newest ≤ time + most_after

-- so is that of the data file, which spells objects
pub record IsNearBase (spells : List ℕ → List ChangeValue → Type 0) (state_time : Option ℕ)
    (told : Option (List ℕ)) : Type 0 where
  pub newest : ℕ
  pub has : HasNewest spells told newest
  pub near : IsNear state_time newest

-- a time is refused beside the newest one
abbrev pub IsFar : Option ℕ → ℕ → RunFault → Type 0
IsFar state_time newest (OlderState time last) =
    (state_time ≡ Some time) × (last ≡ newest) × (time + most_after < newest)
IsFar state_time newest fault = ⊥

-- the data file spells objects
abbrev pub IsRight : (List ℕ → List ChangeValue → Type 0) → FilterValue → Option (List ℕ) → Type 0
IsRight spells f told = IsKept spells f told (λ kept. Unit {0})

-- if the data file spells objects, so many of them are kept, or as many as are counted
pub record IsFirstCount (spells : List ℕ → List ChangeValue → Type 0) (f : FilterValue)
    (told : Option (List ℕ)) (count : ℕ) : Type 0 where
  pub counts : (bytes : List ℕ) (objects : List ChangeValue) → told ≡ Some bytes
      → spells bytes objects → IsCountOf count (kept_objects f objects)

-- a fault of the save
abbrev pub IsOfSave : RunFault → Type 0
IsOfSave (WriteFault Save) = Unit {0}
IsOfSave (TooLarge Save) = Unit {0}
IsOfSave fault = ⊥

-- if the fault is one of the save, the data file spells objects; under a filter with keys that is
-- known before, as all of them are read
abbrev pub IsCheckedAfter : RunFault → (List ℕ → List ChangeValue → Type 0) → FilterValue → Type 0
    → Option (List ℕ) → Type 0
IsCheckedAfter fault spells f known told =
    IsOfSave fault → f.keys ≡ [] → known → IsRight spells f told

-- the lines before the objects: the head, and the number of objects
unfoldable pub first_text : Head → FilterValue → ℕ → List ℕ
first_text head f count =
    ended (head_lines Three head f) ++ ended ((codes "objects " ++ decimal count) ∷ [])

-- the lines after the objects: no counts, and `end`
unfoldable pub last_text : List ℕ
last_text = codes "users 0\nchangesets 0\nend\n"

-- a save text with that head and those objects, under that number
abbrev pub begun_text : Head → FilterValue → ℕ → List ChangeValue → List ℕ
begun_text head f count kept =
    first_text head f count ++ (ended (map line_text kept) ++ last_text)

-- so many objects were kept, and with the lines before and after them they are the file that was
-- begun
pub record IsStaged (state : StoreState) (save : List ℕ) (head : Head) (f : FilterValue)
    (given count : ℕ) (kept : List ChangeValue) : Type 0 where
  pub counted : IsCountOf count kept
  pub stage : state.stage ≡ Some (save, begun_text head f given kept)

-- so many objects were kept, and their lines were written
pub record AreWritten (count : ℕ) (out : List ℕ → Type 0) (kept : List ChangeValue) : Type 0 where
  pub counted : IsCountOf count kept
  pub written : out (ended (map line_text kept))

-- why the save isn't begun with a data file
abbrev pub WriteStops : (List ℕ → ℕ → Type 0) → (List ℕ → Type 0) → Type 0 → Option (List ℕ)
    → RunFault → Type 0
WriteStops goes_wrong is_long known told (WriteFault Save) = Unit {0}
WriteStops goes_wrong is_long known told fault = BaseStops goes_wrong is_long known told fault

-- the same, or the data file isn't as it was in the first pass, in which so many objects were kept;
-- or its newest object is too far after the time of the state, if that is compared
abbrev pub ReplaceStops : (List ℕ → List ChangeValue → Type 0) → (List ℕ → ℕ → Type 0)
    → (List ℕ → Type 0) → Option ℕ → Type 0 → Option (List ℕ) → RunFault → Type 0
ReplaceStops spells goes_wrong is_long state_time known told (Changed Base) = known → ⊥
ReplaceStops spells goes_wrong is_long state_time known told (OlderState time newest) =
    IsFar state_time newest (OlderState time newest) × (known → HasNewest spells told newest)
ReplaceStops spells goes_wrong is_long state_time known told fault =
    WriteStops goes_wrong is_long known told fault

-- the save holds a text with that head and what the filter keeps of the objects of the data file,
-- which aren't too many, and no other name changes
pub record IsReplaced (head : Head) (f : FilterValue) (save : List ℕ) (old new : Files)
    (kept : List ChangeValue) : Type 0 where
  pub few : length kept ≤ most_kept
  pub put : Puts old save (Some (begun_text head f (length kept) kept)) new

-- the filter keeps more objects than a save text can have
abbrev pub AreTooMany : List ChangeValue → Type 0
AreTooMany kept = most_kept < length kept

-- it doesn't
abbrev pub AreFew : List ChangeValue → Type 0
AreFew kept = length kept ≤ most_kept

-- the most calls of the second pass and the commit with a data file of so many bytes
abbrev pub replace_calls : ℕ → ℕ
replace_calls bytes = read_calls bytes + bytes + 5

-- and of both passes
abbrev pub from_calls : ℕ → ℕ
from_calls bytes = read_calls bytes + replace_calls bytes

-- why no save begins with a data file; `state_time` is the time of its state, if that is compared
abbrev pub FromStops : (List ℕ → List ChangeValue → Type 0) → (List ℕ → ℕ → Type 0)
    → (List ℕ → Type 0) → FilterValue → Option ℕ → Type 0 → Option (List ℕ) → RunFault → Type 0
FromStops spells goes_wrong is_long f state_time known told (TooLarge Save) =
    known → IsKept spells f told AreTooMany
FromStops spells goes_wrong is_long f state_time known told (WriteFault Save) =
    known → IsKept spells f told AreFew
FromStops spells goes_wrong is_long f state_time known told fault =
    ReplaceStops spells goes_wrong is_long state_time known told fault
