-- Why a run of the follower that goes on from what its save and the journal beside it keep is
-- refused. `known` says that it is known what the files hold, and `options` are the filter, the
-- limit and the layout of the run.
use Rattle.std.specs.Prelude.{◌≡◌, ℕ, ◌+◌, ◌<◌, ◌≤◌, ◌⊎◌, length, List, None, Option}
use Rattle.osm_model.specs.Filter.{FilterValue}
use Rattle.osm_model.specs.Limits.{max_file}
use Rattle.osm_save.specs.declared.save.Saved.{Saved}
use Rattle.osm_state.specs.State.{StateValue}
use Rattle.osm_store.specs.Files.{Files, IsOver}
use Rattle.osm_merge.specs.Checking.{IsNoSave}
use Rattle.osm_kept.specs.Names.{journal_name_of}
use Rattle.osm_kept.specs.Refusal.{IsBadJournal, IsOther}
use Rattle.osm_runs.specs.Checking.{IsTooLarge}
use Rattle.osm_runs.specs.Folder.{max_state}
use Rattle.osm_runs.specs.Following.{AddsAll, GoesOn, IsReadable, IsTopState, MissingStops}
use Rattle.osm_runs.specs.Following.{NumberStops, end_of}
use Rattle.osm_runs.specs.Keeping.{IsKept}
use Rattle.osm_runs.specs.Names.{top_name_of}
use Rattle.osm_runs.specs.Progress.{IsOfContent}
use Rattle.osm_runs.specs.Folder.{IsBadState}
use Rattle.osm_runs.specs.declared.fault.FileName.TheVariants.{Journal, Save, Top}
use Rattle.osm_runs.specs.declared.fault.RunFault.{RunFault}
use Rattle.osm_runs.specs.declared.fault.RunFault.TheVariants.{Absent, BadJournal, BadSave}
use Rattle.osm_runs.specs.declared.fault.RunFault.TheVariants.{BadState, Changed, OtherFilter}
use Rattle.osm_runs.specs.declared.fault.RunFault.TheVariants.{OtherJournal, ReadFault, TooLarge}
use Rattle.osm_runs.specs.declared.fault.RunFault.TheVariants.{TopBehind, WantOfMemory}
use Rattle.osm_runs.specs.declared.fault.RunFault.TheVariants.{WriteFault}
use Rattle.osm_runs.specs.declared.options.FollowOptions.{FollowOptions}
use Rattle.osm_round.specs.Keeping.{StartsFrom}
use Rattle.osm_round.specs.Rounds.{IsWhole}
use Rattle.osm_round.specs.Starting.{BeginsOther}
use Rattle.osm_round.specs.declared.kept.Sizes.{Sizes}

-- what is kept, if anything, is under the given filter
abbrev pub CanGoOn : FilterValue → List ℕ → Files → Type 0
CanGoOn given save files = (start : Saved) → IsKept given save files start → start.filter ≡ given

-- after what was taken up to some number there are more objects than a save can have
pub record HasManyAfter (options : FollowOptions) (dir save : List ℕ) (files : Files) : Type 0 where
  pub start : Saved
  pub kept : IsKept options.filter save files start
  pub top : StateValue
  pub starts : StartsFrom options.filter dir files start top
  pub count : ℕ
  pub reached : Saved
  pub added : AddsAll files dir count start reached
  pub until : reached.number ≤ end_of options start top
  pub many : 999999999999999999 < length reached.mirror.objects

-- the top state is below what is kept
pub record IsTopBelow (given : FilterValue) (dir save : List ℕ) (files : Files) : Type 0 where
  pub top : StateValue
  pub top_is : IsTopState (files (top_name_of dir)) top
  pub below : (start : Saved) → IsKept given save files start
      → (start.filter ≡ given) × (top.sequence < start.number)

-- for the save, for its journal or for the top state. Nothing of the folder is read before the
-- filter is known to be the given one
abbrev pub BeginningStops : Type 0 → FollowOptions → List ℕ → List ℕ → Files → RunFault → Type 0
BeginningStops known options dir save files WantOfMemory = Unit {0}
BeginningStops known options dir save files (ReadFault Save) = Unit {0}
BeginningStops known options dir save files (ReadFault Journal) = Unit {0}
BeginningStops known options dir save files (WriteFault Save) =
    known → CanGoOn options.filter save files
BeginningStops known options dir save files (WriteFault Journal) =
    known → CanGoOn options.filter save files
BeginningStops known options dir save files (Changed Save) = known → ⊥
BeginningStops known options dir save files (Absent Save) = known → ⊥
BeginningStops known options dir save files (TooLarge Save) =
    known → IsTooLarge (files save) ⊎ HasManyAfter options dir save files
BeginningStops known options dir save files (TooLarge Journal) =
    known → IsOver max_file (files (journal_name_of save))
BeginningStops known options dir save files (BadSave line) = known → IsNoSave (files save)
BeginningStops known options dir save files (BadJournal line) =
    known → IsBadJournal (files save) (files (journal_name_of save)) line
BeginningStops known options dir save files (OtherJournal number) =
    known → IsOther (files save) (files (journal_name_of save)) number
BeginningStops known options dir save files OtherFilter =
    known → BeginsOther options.filter (files save)
BeginningStops known options dir save files (ReadFault Top) =
    known → CanGoOn options.filter save files
BeginningStops known options dir save files (Absent Top) =
    known → CanGoOn options.filter save files × (files (top_name_of dir) ≡ None)
BeginningStops known options dir save files (TooLarge Top) =
    known → CanGoOn options.filter save files × IsOver max_state (files (top_name_of dir))
BeginningStops known options dir save files (BadState Top cause) =
    known → CanGoOn options.filter save files × IsBadState (files (top_name_of dir)) cause
BeginningStops known options dir save files TopBehind =
    known → IsTopBelow options.filter dir save files
BeginningStops known options dir save files fault = ⊥

-- from that start a run comes to that number: it is after the start and at most the last one, and
-- those between are right
pub record ComesFrom (options : FollowOptions) (dir : List ℕ) (files : Files) (top : StateValue)
    (number : ℕ) (start : Saved) : Type 0 where
  pub filter_is : start.filter ≡ options.filter
  pub above : start.number < number
  pub until : number ≤ end_of options start top
  pub each : (k : ℕ) → start.number < k → k < number → IsReadable files dir k

-- a number that is read isn't taken; if for what its files hold, it is the next one after what is
-- kept, and the time before it is that of what is kept
pub record StopsAtNumber (known : Type 0) (options : FollowOptions) (dir save : List ℕ)
    (files : Files) (fault : RunFault) : Type 0 where
  pub top : StateValue
  pub top_is : known → IsTopState (files (top_name_of dir)) top
  pub number : ℕ
  pub comes : known → (start : Saved) → IsKept options.filter save files start
      → ComesFrom options dir files top number start
  pub before : Option ℕ
  pub next : known → IsOfContent fault number → (start : Saved)
      → IsKept options.filter save files start
      → (number ≡ start.number + 1) × (before ≡ start.time)
  pub stops : NumberStops known dir files before number fault

-- from that start a run comes to a number before it looks for lost ones
pub record ComesAsFar (options : FollowOptions) (dir : List ℕ) (files : Files) (top : StateValue)
    (reached last : ℕ) (start : Saved) : Type 0 where
  pub filter_is : start.filter ≡ options.filter
  pub count : ℕ
  pub value : Saved
  pub goes_on : GoesOn files dir start (end_of options start top) count value
  pub reached_is : reached ≡ value.number
  pub last_is : last ≡ end_of options start top

-- a number beyond the first lost one isn't looked for
pub record StopsPast (known : Type 0) (options : FollowOptions) (dir save : List ℕ)
    (files : Files) (fault : RunFault) : Type 0 where
  pub top : StateValue
  pub top_is : known → IsTopState (files (top_name_of dir)) top
  pub last : ℕ
  pub reached : ℕ
  pub comes : known → (start : Saved) → IsKept options.filter save files start
      → ComesAsFar options dir files top reached last start
  pub stops : MissingStops known dir files reached last fault

-- why a run is refused
abbrev pub KeepingStops : Type 0 → FollowOptions → List ℕ → List ℕ → Files → RunFault → Type 0
KeepingStops known options dir save files fault =
    BeginningStops known options dir save files fault
    ⊎ StopsAtNumber known options dir save files fault
    ⊎ StopsPast known options dir save files fault

-- over a small save no fault comes before one of memory, of the save itself or of its journal
abbrev pub IsFirstKept : RunFault → Type 0
IsFirstKept WantOfMemory = Unit {0}
IsFirstKept (ReadFault Save) = Unit {0}
IsFirstKept (ReadFault Journal) = Unit {0}
IsFirstKept (TooLarge Save) = Unit {0}
IsFirstKept (TooLarge Journal) = Unit {0}
IsFirstKept (BadSave line) = Unit {0}
IsFirstKept (BadJournal line) = Unit {0}
IsFirstKept (OtherJournal number) = Unit {0}
IsFirstKept fault = ⊥

-- why a run is refused. Over a small save only a fault of memory, of the save or of its journal
-- comes first: by any other the save is a save text, or there is none
pub record FollowStops (known : Type 0) (options : FollowOptions) (sizes : Sizes)
    (dir save : List ℕ) (files : Files) (fault : RunFault) : Type 0 where
  pub stops : KeepingStops known options dir save files fault
  pub first : known → (IsOver sizes.small (files save) → ⊥) → (IsFirstKept fault → ⊥)
      → IsWhole (files save)
