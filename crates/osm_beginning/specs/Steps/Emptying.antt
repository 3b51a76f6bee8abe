-- The journal beside a save that begins with that head under that filter: whether it is emptied,
-- and when. `told` and `journal` are what the save of before and its journal hold, none if there is
-- no such file.
use Rattle.std.specs.Prelude.{◌≡◌, ℕ, ◌<◌, ◌≤◌, ◌⊎◌, List, [], ◌++◌, length, Option, Some, None}
use Rattle.osm_model.specs.Change.{ChangeValue}
use Rattle.osm_model.specs.Filter.{FilterValue}
use Rattle.osm_model.specs.Limits.{max_file}
use Rattle.osm_save.specs.declared.head.Head.{Head}
use Rattle.osm_save.specs.declared.version.Version.TheVariants.{Three}
use Rattle.osm_store.specs.Files.{Files, IsOver}
use Rattle.osm_journal.specs.Journal.{JournalValue, SpellsJournal, last_number}
use Rattle.osm_kept.specs.Kept.{HasJournal}
use Rattle.osm_kept.specs.Names.{journal_name_of}
use Rattle.osm_kept.specs.Refusal.{IsNoJournalText}
use Rattle.osm_runs.specs.declared.fault.FileName.TheVariants.{Journal, Save}
use Rattle.osm_runs.specs.declared.fault.RunFault.{RunFault}
use Rattle.osm_runs.specs.declared.fault.RunFault.TheVariants.{ReadFault, TooLarge, WantOfMemory}
use Rattle.osm_runs.specs.declared.fault.RunFault.TheVariants.{OtherJournal, WriteFault}
use Rattle.osm_beginning.specs.Beginning.{most_kept}
use Rattle.osm_beginning.specs.Keeping.{EndsAt, HasNoJournal, IsSameOrEmpty, LeavesSave}
use Rattle.osm_beginning.specs.Steps.Passes.{FromStops, IsKept, IsReplaced, begun_text}
use Rattle.osm_beginning.specs.declared.journal.Due.{Due}
use Rattle.osm_beginning.specs.declared.journal.Due.TheVariants.{Above, After, Before, Never}

-- ---- what lies beside the save

-- the file begins with those bytes
pub record BeginsWith (told : Option (List ℕ)) (bytes : List ℕ) : Type 0 where
  pub file : List ℕ
  pub there : told ≡ Some file
  pub rest : List ℕ
  pub begins : file ≡ bytes ++ rest

-- the journal is one of a save that begins so
pub record IsOfSuch (j : JournalValue) (head : Head) (f : FilterValue) : Type 0 where
  pub version : j.version ≡ Three
  pub head_is : j.head ≡ head
  pub filter_is : j.kept_by ≡ f

-- the bytes are a journal of a save that begins otherwise, and it doesn't end above that head
pub record IsOfOther (head : Head) (f : FilterValue) (bytes : List ℕ) : Type 0 where
  pub value : JournalValue
  pub spells : SpellsJournal bytes value
  pub other : IsOfSuch value head f → ⊥
  pub within : last_number value.head.number value.batches ≤ head.number

-- the journal says nothing of a save that begins so
abbrev pub SaysNothing : Head → FilterValue → Option (List ℕ) → Type 0
SaysNothing head f None = Unit {0}
SaysNothing head f (Some bytes) = (bytes ≡ []) ⊎ IsOfOther head f bytes

-- the journal is one of the save of before, which begins so too
pub record IsOwn (head : Head) (f : FilterValue) (told journal : Option (List ℕ)) : Type 0 where
  pub value : JournalValue
  pub has : HasJournal told journal value
  pub such : IsOfSuch value head f

-- the journal is one of a save that begins otherwise, and it ends at that number, which is above
-- that head
pub record IsAbove (head : Head) (f : FilterValue) (journal : Option (List ℕ)) (number : ℕ)
    : Type 0 where
  pub bytes : List ℕ
  pub there : journal ≡ Some bytes
  pub value : JournalValue
  pub spells : SpellsJournal bytes value
  pub other : IsOfSuch value head f → ⊥
  pub ends : number ≡ last_number value.head.number value.batches
  pub above : head.number < number

-- which journal is emptied before the save is written: one that ends at that number, or a file that
-- is no journal
abbrev pub IsFirst : Option (List ℕ) → Option ℕ → Type 0
IsFirst journal (Some number) = EndsAt journal number
IsFirst journal None = IsNoJournalText journal

-- when the journal has to be emptied
abbrev pub IsDue : Head → FilterValue → Option (List ℕ) → Option (List ℕ) → Due → Type 0
IsDue head f told journal Never = SaysNothing head f journal
IsDue head f told journal (Before number) = HasNoJournal told journal × IsFirst journal number
IsDue head f told journal (After number) = IsOwn head f told journal × EndsAt journal number
IsDue head f told journal (Above number) = IsAbove head f journal number

-- when one is emptied that ends at that number and is one of a save that begins otherwise
abbrev pub IsDueBeside : Head → ℕ → Due → Type 0
IsDueBeside head last Never = last ≤ head.number
IsDueBeside head last (Above number) = (number ≡ last) × (head.number < last)
IsDueBeside head last due = ⊥

-- why the bytes of a journal aren't read. `known` says that it is known what the files hold
abbrev pub BytesStops : Type 0 → Option (List ℕ) → RunFault → Type 0
BytesStops known journal WantOfMemory = Unit {0}
BytesStops known journal (ReadFault Journal) = Unit {0}
BytesStops known journal (TooLarge Journal) = known → IsOver max_file journal
BytesStops known journal fault = ⊥

-- why it isn't read what a save begins with
abbrev pub OwnStops : RunFault → Type 0
OwnStops WantOfMemory = Unit {0}
OwnStops (ReadFault Save) = Unit {0}
OwnStops fault = ⊥

-- why that isn't known. `known` says that it is known what the files hold
abbrev pub DueStops : Type 0 → Option (List ℕ) → RunFault → Type 0
DueStops known journal WantOfMemory = Unit {0}
DueStops known journal (ReadFault Journal) = Unit {0}
DueStops known journal (ReadFault Save) = Unit {0}
DueStops known journal (TooLarge Journal) = known → IsOver max_file journal
DueStops known journal fault = ⊥

-- ---- what is left of the two files

-- the save holds a text with that head and those objects, which aren't too many, and its journal
-- says nothing of it; no other name changes
pub record IsPut (head : Head) (f : FilterValue) (save : List ℕ) (old new : Files)
    (kept : List ChangeValue) : Type 0 where
  pub few : length kept ≤ most_kept
  pub there : new save ≡ Some (begun_text head f (length kept) kept)
  pub journal : IsSameOrEmpty (old (journal_name_of save)) (new (journal_name_of save))
  pub silent : SaysNothing head f (new (journal_name_of save))
  pub others : (name : List ℕ) → (name ≡ save → ⊥) → (name ≡ journal_name_of save → ⊥)
      → new name ≡ old name

-- the save is as it was; the journal is too, or is empty
pub record LeavesOrEmpties (save : List ℕ) (old new : Files) : Type 0 where
  pub journal : IsSameOrEmpty (old (journal_name_of save)) (new (journal_name_of save))
  pub others : (name : List ℕ) → (name ≡ journal_name_of save → ⊥) → new name ≡ old name

-- the save was put into place, and no other name changed. `told` is what the data file holds, and
-- `spells` what its form says of bytes
abbrev pub IsPutAlone : (List ℕ → List ChangeValue → Type 0) → Head → FilterValue → Option (List ℕ)
    → List ℕ → Files → Files → Type 0
IsPutAlone spells head f told save old new =
    IsKept spells f told (IsReplaced head f save old new)

-- what a beginning leaves that ends in that fault
abbrev pub LeavesBeside : (List ℕ → List ChangeValue → Type 0) → Head → FilterValue
    → Option (List ℕ) → List ℕ → Files → Files → RunFault → Type 0
LeavesBeside spells head f told save old new (OtherJournal number) =
    IsAbove head f (old (journal_name_of save)) number
    × IsPutAlone spells head f told save old new
LeavesBeside spells head f told save old new fault =
    LeavesSave save old new
    ⊎ (IsOwn head f (old save) (old (journal_name_of save))
    × IsPutAlone spells head f told save old new)

-- the journal is as it was, and nothing is told; or it is empty, and so much is told
abbrev pub DropsOrLeaves : Option ℕ → Option (List ℕ) → Option (List ℕ) → Option ℕ → Type 0
DropsOrLeaves last old new told = ((new ≡ old) × (told ≡ None)) ⊎ ((new ≡ Some []) × (told ≡ last))

-- what it leaves if the journal is emptied last, and is one of a save that begins otherwise
abbrev pub LeavesAbove : (List ℕ → List ChangeValue → Type 0) → Head → FilterValue
    → Option (List ℕ) → List ℕ → Files → Files → ℕ → RunFault → Type 0
LeavesAbove spells head f told save old new last (OtherJournal number) =
    (number ≡ last) × IsPutAlone spells head f told save old new
LeavesAbove spells head f told save old new last fault = new ≡ old

-- why no save begins beside a journal. `known` says that it is known what the files hold, and
-- `told` is what the data file holds
abbrev pub BesideStops : (List ℕ → List ChangeValue → Type 0) → (List ℕ → ℕ → Type 0)
    → (List ℕ → Type 0) → Head → FilterValue → Option ℕ → Type 0 → Option (List ℕ)
    → Option (List ℕ) → RunFault → Type 0
BesideStops spells goes_wrong is_long head f state_time known told journal (ReadFault Journal) =
    Unit {0}
BesideStops spells goes_wrong is_long head f state_time known told journal (ReadFault Save) =
    Unit {0}
BesideStops spells goes_wrong is_long head f state_time known told journal (WriteFault Journal) =
    Unit {0}
BesideStops spells goes_wrong is_long head f state_time known told journal (TooLarge Journal) =
    known → IsOver max_file journal
BesideStops spells goes_wrong is_long head f state_time known told journal (OtherJournal number) =
    known → IsAbove head f journal number
BesideStops spells goes_wrong is_long head f state_time known told journal fault =
    FromStops spells goes_wrong is_long f state_time known told fault
