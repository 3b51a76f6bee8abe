-- Beginning a save beside which a journal may lie. `known` says that it is known what the files
-- hold, and `given` is the filter that the run was given.
use Rattle.std.specs.Prelude.{◌≡◌, ◌<◌, ◌≤◌, ℕ, ◌+◌, ◌⊎◌, List, [], Option, Some, None, Result}
use Rattle.std.specs.Prelude.{Bool, IfErr, IsSome}
use Rattle.osm_model.specs.Filter.{FilterValue}
use Rattle.osm_model.specs.Limits.{max_file}
use Rattle.osm_save.specs.Head.{head_of}
use Rattle.osm_save.specs.Save.{save_text}
use Rattle.osm_save.specs.declared.save.Saved.{Saved}
use Rattle.osm_save.specs.declared.version.Version.TheVariants.{Three}
use Rattle.osm_store.specs.Files.{Files, HasFailed, IsOver, Puts, Spends}
use Rattle.osm_store.specs.Frames.{IsKnown, StoreState}
use Rattle.osm_journal.specs.Journal.{JournalValue, SpellsJournal, last_number}
use Rattle.osm_kept.specs.Kept.{HasJournal}
use Rattle.osm_kept.specs.Names.{journal_name_of}
use Rattle.osm_kept.specs.Refusal.{HasNoOther, IsNoJournalText, IsOther}
use Rattle.osm_runs.specs.Following.{IsSaved}
use Rattle.osm_runs.specs.Keeping.{IsKept}
use Rattle.osm_runs.specs.Reports.{ReportValue, begin_report_of}
use Rattle.osm_runs.specs.DataForms.{HasDataForm}
use Rattle.osm_runs.specs.declared.fault.FileName.TheVariants.{Journal, Save}
use Rattle.osm_runs.specs.declared.fault.RunFault.{RunFault}
use Rattle.osm_runs.specs.declared.fault.RunFault.TheVariants.{OtherJournal, ReadFault, TooLarge}
use Rattle.osm_runs.specs.declared.fault.RunFault.TheVariants.{WriteFault}
use Rattle.osm_state.specs.State.{StateValue}
use Rattle.osm_beginning.specs.Beginning.{BeginStops, HasStart, IsBeginning, IsStart, begin_calls}
use Rattle.osm_beginning.specs.Beginning.{begun_save}

-- the journal is as it was, or is empty
abbrev pub IsSameOrEmpty : Option (List ℕ) → Option (List ℕ) → Type 0
IsSameOrEmpty old new = (new ≡ old) ⊎ (new ≡ Some [])

-- the file is a journal, and its last batch has that number
pub record EndsAt (journal : Option (List ℕ)) (number : ℕ) : Type 0 where
  pub bytes : List ℕ
  pub there : journal ≡ Some bytes
  pub value : JournalValue
  pub spells : SpellsJournal bytes value
  pub ends : number ≡ last_number value.head.number value.batches

-- which journal was emptied: one that ended at that number. If none is told, the file is as it was,
-- or it was no journal and is empty
abbrev pub IsDropped : Option (List ℕ) → Option (List ℕ) → Option ℕ → Type 0
IsDropped old new (Some number) = EndsAt old number × (new ≡ Some [])
IsDropped old new None = (new ≡ old) ⊎ ((new ≡ Some []) × IsNoJournalText old)

-- the save and its journal keep exactly what the state and the data file give, whatever they kept
-- before, and the journal isn't one of another save that ends above; no other name changes, and the
-- number is reported
pub record IsBegunBoth (given : FilterValue) (base state save : List ℕ) (old new : Files)
    (report : ReportValue) : Type 0 where
  pub s : StateValue
  pub text : List ℕ
  pub beginning : IsBeginning given base state old s text
  pub there : new save ≡ Some text
  pub kept : IsKept given save new (begun_save given s beginning.objects)
  pub journal : IsSameOrEmpty (old (journal_name_of save)) (new (journal_name_of save))
  pub free : HasNoOther (new save) (new (journal_name_of save))
  pub others : (name : List ℕ) → (name ≡ save → ⊥) → (name ≡ journal_name_of save → ⊥)
      → new name ≡ old name
  pub report_is : report ≡ begin_report_of s.sequence

-- no journal of that save lies beside it
abbrev pub HasNoJournal : Option (List ℕ) → Option (List ℕ) → Type 0
HasNoJournal told journal = (j : JournalValue) → HasJournal told journal j → ⊥

-- every file is as it was but the journal, which may be empty now if it wasn't one of the save
pub record LeavesSave (save : List ℕ) (old new : Files) : Type 0 where
  pub journal : (new (journal_name_of save) ≡ old (journal_name_of save))
      ⊎ ((new (journal_name_of save) ≡ Some [])
      × HasNoJournal (old save) (old (journal_name_of save)))
  pub others : (name : List ℕ) → (name ≡ journal_name_of save → ⊥) → new name ≡ old name

-- the save has begun, but its journal isn't emptied, which was one of the save of before: that
-- began as the new one does, as version 3 with the same head
pub record IsCutShort (given : FilterValue) (base state save : List ℕ) (old new : Files) : Type 0
  where
    pub s : StateValue
    pub text : List ℕ
    pub beginning : IsBeginning given base state old s text
    pub put : Puts old save (Some text) new
    pub journal : JournalValue
    pub has : HasJournal (old save) (old (journal_name_of save)) journal
    pub version : (v : Saved) → IsSaved given (old save) v → old save ≡ Some (save_text Three v)
    pub head : (v : Saved) → IsSaved given (old save) v
        → head_of v ≡ head_of (begun_save given s beginning.objects)

-- the save has begun, but the journal isn't emptied, which is one of another save, and ends at that
-- number, which is above that of the new one
pub record IsCutBeside (given : FilterValue) (base state save : List ℕ) (old new : Files)
    (number : ℕ) : Type 0 where
  pub s : StateValue
  pub text : List ℕ
  pub beginning : IsBeginning given base state old s text
  pub put : Puts old save (Some text) new
  pub other : IsOther (new save) (new (journal_name_of save)) number

-- what a beginning leaves that ends in that fault
abbrev pub LeavesBegun : FilterValue → List ℕ → List ℕ → List ℕ → Files → Files → RunFault → Type 0
LeavesBegun given base state save old new (OtherJournal number) =
    IsCutBeside given base state save old new number
LeavesBegun given base state save old new fault =
    LeavesSave save old new ⊎ IsCutShort given base state save old new

-- the state was read, and the journal ends at that number, which is above that of the state
pub record HasAbove (state save : List ℕ) (files : Files) (number : ℕ) : Type 0 where
  pub s : StateValue
  pub start : IsStart (files state) s
  pub ends : EndsAt (files (journal_name_of save)) number
  pub above : s.sequence < number

-- why nothing begins: besides the reasons without a journal, since the journal or what the save
-- begins with isn't read, or the journal isn't written; what they say is no reason
abbrev pub BeginKeptStops : Type 0 → Bool → FilterValue → List ℕ → List ℕ → List ℕ → Files
    → RunFault → Type 0
BeginKeptStops known any_time given base state save files (ReadFault Save) =
    HasDataForm base × (known → HasStart state files)
BeginKeptStops known any_time given base state save files (ReadFault Journal) =
    HasDataForm base × (known → HasStart state files)
BeginKeptStops known any_time given base state save files (TooLarge Journal) =
    HasDataForm base
    × (known → HasStart state files × IsOver max_file (files (journal_name_of save)))
BeginKeptStops known any_time given base state save files (WriteFault Journal) =
    HasDataForm base × (known → HasStart state files)
BeginKeptStops known any_time given base state save files (OtherJournal number) =
    HasDataForm base × (known → HasAbove state save files number)
BeginKeptStops known any_time given base state save files fault =
    BeginStops known any_time given base state files fault

-- the most calls of a beginning with a data file of so many bytes: three more than without a
-- journal, to read what lies there, and to empty the journal
abbrev pub begin_kept_calls : ℕ → ℕ
begin_kept_calls bytes = begin_calls bytes + 3

-- any number of calls was made. The device is blamed only if it failed, and that of known files
-- only if the store stops at some time
pub record CallsOften {T E : Type 0} (blames : E → Type 0) (old new : StoreState)
    (result : Result T E) : Type 0 where
  pub known : new.is_known ≡ old.is_known
  pub left : Spends 0 old.left new.left
  pub failures : old.failures ≤ new.failures
  pub failed : IfErr result (λ e. blames e → HasFailed old.failures new.failures)
  pub stops : IfErr result (λ e. IsKnown old → blames e → IsSome old.left)
