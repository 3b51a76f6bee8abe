-- How far what a save and its journal keep is behind a folder. `known` says that it is known what
-- the files hold, and a word that ends in `In` takes the state of a store in place of `known` and
-- the files.
use Rattle.std.specs.Prelude.{◌≡◌, ℕ, ◌+◌, ◌<◌, ◌≤◌, List, [], Option, Some, None}
use Rattle.osm_model.specs.Filter.{FilterValue}
use Rattle.std.specs.Prelude.{Result, IfErr, IfOk}
use Rattle.osm_save.specs.Head.{head_of}
use Rattle.osm_save.specs.declared.head.Head.{Head}
use Rattle.osm_save.specs.declared.save.Saved.{Saved}
use Rattle.osm_state.specs.State.{StateValue}
use Rattle.osm_follow.specs.Lag.{AreSeconds}
use Rattle.osm_store.specs.Files.{Files, HasFewer, IsOver}
use Rattle.osm_store.specs.Frames.{IsKnown, StoreState}
use Rattle.osm_kept.specs.Finding.{bytes_of}
use Rattle.osm_kept.specs.Heads.{HasHead}
use Rattle.osm_kept.specs.Names.{journal_name_of}
use Rattle.osm_kept.specs.Refusal.{IsNoJournalText, IsNoSave, IsOther, OpensAbove}
use Rattle.osm_runs.specs.Folder.{IsStateFile, IsThere, max_state}
use Rattle.osm_runs.specs.Keeping.{IsKept}
use Rattle.osm_runs.specs.Following.{no_head, standing_from}
use Rattle.osm_runs.specs.Names.{top_name_of}
use Rattle.osm_runs.specs.Folder.{IsBadState}
use Rattle.osm_runs.specs.Reports.{ReportValue, lag_told}
use Rattle.osm_runs.specs.declared.fault.FileName.TheVariants.{Journal, Save, Top}
use Rattle.osm_runs.specs.declared.fault.RunFault.{RunFault}
use Rattle.osm_runs.specs.declared.fault.RunFault.TheVariants.{Absent, BadJournal, BadSave}
use Rattle.osm_runs.specs.declared.fault.RunFault.TheVariants.{BadState, Changed, OtherJournal}
use Rattle.osm_runs.specs.declared.fault.RunFault.TheVariants.{ReadFault, TimeBehind, TooLarge}
use Rattle.osm_runs.specs.declared.fault.RunFault.TheVariants.{TopBehind, WantOfMemory}
use Rattle.osm_runs.specs.declared.options.Layout.{Layout}

-- the head that the first lines of two files come to, whatever comes after these; no save is the
-- start, and then there is no journal, or an empty one
abbrev pub ComeToHead : Option (List ℕ) → Option (List ℕ) → Head → Type 0
ComeToHead None journal head = (head ≡ no_head) × (bytes_of journal ≡ [])
ComeToHead (Some bytes) journal head = HasHead (Some bytes) journal head

-- the head of the save of that name and its journal
abbrev pub IsKeptHead : List ℕ → Files → Head → Type 0
IsKeptHead save files head = ComeToHead (files save) (files (journal_name_of save)) head

-- that head and the top state were read
pub record IsKeptBegun (dir save : List ℕ) (files : Files) (start : Head) (top : StateValue) :
    Type 0 where
  pub head : IsKeptHead save files start
  pub top_is : IsThere (files (top_name_of dir)) (IsStateFile top.sequence top.time)

-- the numbers and the seconds from that head to the top state are reported. If the two files keep
-- something, that is the head of it, under whatever filter
pub record IsKeptLag (layout : Layout) (dir save : List ℕ) (files : Files) (report : ReportValue) :
    Type 0 where
  pub start : Head
  pub top : StateValue
  pub begun : IsKeptBegun dir save files start top
  pub kept : (given : FilterValue) (v : Saved) → IsKept given save files v → start ≡ head_of v
  pub behind : ℕ
  pub seconds : Option ℕ
  pub behind_is : start.number + behind ≡ top.sequence
  pub seconds_are : AreSeconds start.time top.time seconds
  pub report_is : report ≡ lag_told layout (standing_from start top) behind seconds

-- the same in a store
abbrev pub IsKeptLagIn : StoreState → Layout → List ℕ → List ℕ → ReportValue → Type 0
IsKeptLagIn store layout dir save report =
    IsKnown store → IsKeptLag layout dir save store.files report

-- there is no save, or the first lines of it and of its journal come to a head
abbrev pub HasKeptHead : List ℕ → Files → Type 0
HasKeptHead save files = (head : Head) × IsKeptHead save files head

-- the top state is below what is kept
pub record IsBelowKept (dir save : List ℕ) (files : Files) : Type 0 where
  pub start : Head
  pub top : StateValue
  pub begun : IsKeptBegun dir save files start top
  pub below : top.sequence < start.number

-- the top state isn't below what is kept, but its time is
pub record IsTimeBelowKept (dir save : List ℕ) (files : Files) : Type 0 where
  pub start : Head
  pub top : StateValue
  pub begun : IsKeptBegun dir save files start top
  pub reached : start.number ≤ top.sequence
  pub time : ℕ
  pub time_is : start.time ≡ Some time
  pub below : top.time < time

-- why it isn't read which head is kept
abbrev pub KeptHeadStops : Type 0 → List ℕ → Files → RunFault → Type 0
KeptHeadStops known save files WantOfMemory = Unit {0}
KeptHeadStops known save files (ReadFault Journal) = Unit {0}
KeptHeadStops known save files (TooLarge Journal) = known → ⊥
KeptHeadStops known save files (BadJournal line) =
    known → IsNoJournalText (files (journal_name_of save))
KeptHeadStops known save files (OtherJournal number) =
    known → OpensAbove (files save) (files (journal_name_of save)) number
KeptHeadStops known save files (Changed Save) = known → ⊥
KeptHeadStops known save files (ReadFault Save) = Unit {0}
KeptHeadStops known save files (BadSave line) = known → IsNoSave (files save)
KeptHeadStops known save files fault = ⊥

-- why no lag is reported: the head is read before the top state
abbrev pub KeptLagStops : Type 0 → List ℕ → List ℕ → Files → RunFault → Type 0
KeptLagStops known dir save files (ReadFault Top) = known → HasKeptHead save files
KeptLagStops known dir save files (Absent Top) =
    known → HasKeptHead save files × (files (top_name_of dir) ≡ None)
KeptLagStops known dir save files (TooLarge Top) =
    known → HasKeptHead save files × IsOver max_state (files (top_name_of dir))
KeptLagStops known dir save files (BadState Top cause) =
    known → HasKeptHead save files × IsBadState (files (top_name_of dir)) cause
KeptLagStops known dir save files TopBehind = known → IsBelowKept dir save files
KeptLagStops known dir save files TimeBehind = known → IsTimeBelowKept dir save files
KeptLagStops known dir save files fault = KeptHeadStops known save files fault

-- the same in a store
abbrev pub KeptLagStopsIn : StoreState → List ℕ → List ℕ → RunFault → Type 0
KeptLagStopsIn store dir save = KeptLagStops (IsKnown store) dir save store.files

-- the journal is read first, then the save, and then the top state: fewer calls than that were left
-- if the device failed at the file
abbrev pub KeptLagOut : Option ℕ → RunFault → Type 0
KeptLagOut left (ReadFault Journal) = HasFewer 1 left
KeptLagOut left (ReadFault Save) = HasFewer 2 left
KeptLagOut left (ReadFault file) = HasFewer 3 left
KeptLagOut left fault = Unit {0}

-- without a save: how far the start is behind the top state is reported, beside no journal or an
-- empty one
pub record IsLagAlone (layout : Layout) (dir : List ℕ) (journal : Option (List ℕ)) (files : Files)
    (report : ReportValue) : Type 0 where
  pub none : bytes_of journal ≡ []
  pub top : StateValue
  pub top_is : IsThere (files (top_name_of dir)) (IsStateFile top.sequence top.time)
  pub report_is : report ≡ lag_told layout (standing_from no_head top) top.sequence None

-- why it isn't beside a journal that ends at that number: besides memory and the device that is
-- the reason
abbrev pub LagStopsAlone : ℕ → RunFault → Type 0
LagStopsAlone number WantOfMemory = Unit {0}
LagStopsAlone number (ReadFault file) = Unit {0}
LagStopsAlone number (OtherJournal last) = last ≡ number
LagStopsAlone number fault = ⊥

-- what a run does without a save
pub record LagsAlone (layout : Layout) (dir : List ℕ) (journal : Option (List ℕ)) (files : Files)
    (result : Result ReportValue RunFault) : Type 0 where
  pub told : IfOk result (IsLagAlone layout dir journal files)
  pub refuses : IfErr result
      (λ fault. (number : ℕ) → IsOther None journal number → LagStopsAlone number fault)
