-- What a run of the follower takes of a folder and reports, whatever the size of its save. `known`
-- says that it is known what the files hold, and `options` are the filter, the limit and the layout
-- of the run.
use Rattle.std.specs.Prelude.{◌≡◌, ℕ, ◌+◌, ◌-◌, ◌*◌, ◌<◌, ◌≤◌, ◌⊎◌, ◌↔◌, List, [], Option}
use Rattle.std.specs.Prelude.{Some, None}
use Rattle.osm_model.specs.Limits.{max_changes, max_sequence}
use Rattle.osm_save.specs.declared.head.Head.{Head}
use Rattle.osm_state.specs.State.{StateValue}
use Rattle.osm_store.specs.Files.{Files}
use Rattle.osm_runs.specs.Folder.{IsStateFile, IsThere}
use Rattle.osm_runs.specs.Following.{FindTopStops, IsReached, IsReadable, MissingStops}
use Rattle.osm_runs.specs.Following.{NumberStops, bytes_of, last_number, lost_numbers, ranges}
use Rattle.osm_runs.specs.Following.{standing_from}
use Rattle.osm_runs.specs.Names.{top_name_of}
use Rattle.osm_runs.specs.Progress.{IsOfContent}
use Rattle.osm_runs.specs.Reports.{Outcome, ReportValue, applied_report_of, report_of}
use Rattle.osm_runs.specs.declared.fault.RunFault.{RunFault}
use Rattle.osm_runs.specs.declared.fault.RunFault.TheVariants.{TopBehind, WantOfMemory}
use Rattle.osm_runs.specs.declared.options.FollowOptions.{FollowOptions}
use Rattle.osm_runs.specs.declared.options.Layout.{Layout}
use Rattle.osm_runs.specs.declared.options.Layout.TheVariants.{Json, Lines}
use Rattle.osm_runs.specs.declared.progress.Progress.{Progress}
use Rattle.osm_runs.specs.declared.progress.Progress.TheVariants.{Before, Part, Whole}
use Rattle.osm_runs.specs.Checking.{IsSaveText}
use Rattle.osm_round.specs.News.{HoldsUpTo, TakenValue, came_to}
use Rattle.osm_round.specs.Taking.{HasTaken, LeavesRoom}
use Rattle.osm_round.specs.declared.round.Ending.{Ending}
use Rattle.osm_round.specs.declared.round.Ending.TheVariants as endings
use Rattle.osm_round.specs.declared.round.Prepared.{Prepared}

-- the bytes of change files after which a run that reports in lines takes no further number: 16 MiB
abbrev pub max_round : ℕ
max_round = 16777216

-- the bytes that a run takes at once: a report in JSON is of all that there is
abbrev pub room_of : Layout → Option ℕ
room_of Lines = Some max_round
room_of Json = None

-- a run with that limit that took so many numbers may take more; none can have more than there are
abbrev pub MayTakeMore : Option ℕ → ℕ → Type 0
MayTakeMore None count = count ≤ max_sequence
MayTakeMore (Some limit) count = count < limit

-- a part is less than the run may take, whatever is known of the files
abbrev pub IsLess : Option ℕ → Progress → Type 0
IsLess limit (Part report applied count) = MayTakeMore limit count
IsLess limit progress = Unit {0}

-- there is no save, or it is a save text
abbrev pub IsWhole : Option (List ℕ) → Type 0
IsWhole told = (told ≡ None) ⊎ IsSaveText told

-- ---- what it takes and reports

-- where a run stands, what it applied and what is missing
abbrev pub outcome_of : Head → StateValue → Head → ℕ → List ℕ → Outcome
outcome_of head top start count missing = record {
  standing = standing_from head top;
  applied = ranges start.number count;
  missing = missing;
}

-- the report of a run that reached that head, and how it ends
abbrev pub IsReport : Type 0 → Layout → Files → List ℕ → Head → StateValue → ℕ → ℕ → Head
    → Ending → ReportValue → Type 0
IsReport known layout files dir start top last count head endings.Whole report =
    (missing : List ℕ) × (known → IsReached files dir head.number last)
    × (known → missing ≡ lost_numbers files dir head.number last)
    × ((missing ≡ []) ↔ (head.number ≡ last))
    × (report ≡ report_of layout None (outcome_of head top start count missing))
IsReport known layout files dir start top last count head (endings.Part applied taken) report =
    (taken ≡ count) × (0 < count) × (layout ≡ Lines) × (head.number < last)
    × (known → max_round ≤ bytes_of files dir start.number count)
    × (applied ≡ applied_report_of (ranges start.number count))
    × (report ≡ report_of layout None (outcome_of head top start count []))
IsReport known layout files dir start top last count head (endings.Before fault) report =
    (said : List ℕ) × (0 < count) × (head.number < last) × IsOfContent fault (head.number + 1)
    × NumberStops known dir files head.time (head.number + 1) fault
    × (report ≡ report_of layout (Some said) (outcome_of head top start count []))

-- what a run took, and its report
pub record IsPrepared (known : Type 0) (options : FollowOptions) (dir : List ℕ) (files : Files)
    (start : Head) (p : Prepared) : Type 0 where
  pub top : StateValue
  pub top_is : known → IsThere (files (top_name_of dir)) (IsStateFile top.sequence top.time)
  pub most : top.sequence ≤ max_sequence
  pub taken : HasTaken known files dir options.filter start (came_to options.filter p.taken)
  pub few : HoldsUpTo (max_changes * p.taken.head.number) p.taken.news
  pub until : p.taken.head.number ≤ last_number options.limit start.number top.sequence
  pub report : IsReport known options.layout files dir start top
      (last_number options.limit start.number top.sequence) taken.count p.taken.head p.ending
      p.report
  pub room : known → LeavesRoom (room_of options.layout)
      (bytes_of files dir start.number (taken.count - 1))

-- the top state is below the head
pub record IsBelow (dir : List ℕ) (files : Files) (start : Head) : Type 0 where
  pub top : StateValue
  pub top_is : IsThere (files (top_name_of dir)) (IsStateFile top.sequence top.time)
  pub below : top.sequence < start.number

-- a number after the head isn't taken; if for what its files hold, it is the next one, and the time
-- before it is that of the head
pub record StopsTaking (known : Type 0) (options : FollowOptions) (dir : List ℕ) (files : Files)
    (start : Head) (fault : RunFault) : Type 0 where
  pub top : StateValue
  pub top_is : known → IsThere (files (top_name_of dir)) (IsStateFile top.sequence top.time)
  pub number : ℕ
  pub above : start.number < number
  pub until : number ≤ last_number options.limit start.number top.sequence
  pub each : known → (k : ℕ) → start.number < k → k < number → IsReadable files dir k
  pub before : Option ℕ
  pub next : IsOfContent fault number → (number ≡ start.number + 1) × (before ≡ start.time)
  pub stops : NumberStops known dir files before number fault

-- a number beyond the first lost one isn't looked for
pub record StopsLooking (known : Type 0) (options : FollowOptions) (dir : List ℕ) (files : Files)
    (start : Head) (fault : RunFault) : Type 0 where
  pub top : StateValue
  pub top_is : known → IsThere (files (top_name_of dir)) (IsStateFile top.sequence top.time)
  pub taken : TakenValue
  pub has : HasTaken known files dir options.filter start taken
  pub until : taken.head.number ≤ last_number options.limit start.number top.sequence
  pub reached : known → IsReached files dir taken.head.number
      (last_number options.limit start.number top.sequence)
  pub stops : MissingStops known dir files taken.head.number
      (last_number options.limit start.number top.sequence) fault

-- why nothing is saved after a head, with a newest state
abbrev pub UpToStops :
    Type 0 → FollowOptions → List ℕ → Files → Head → RunFault → Type 0
UpToStops known options dir files start fault =
    (fault ≡ WantOfMemory)
    ⊎ ((fault ≡ TopBehind) × (known → IsBelow dir files start))
    ⊎ StopsTaking known options dir files start fault
    ⊎ StopsLooking known options dir files start fault

-- the same, or for the newest state
abbrev pub PrepareStops :
    Type 0 → FollowOptions → List ℕ → Files → Head → RunFault → Type 0
PrepareStops known options dir files start fault =
    FindTopStops known (files (top_name_of dir)) fault
    ⊎ UpToStops known options dir files start fault

-- why no report is made of what comes before a faulty number: for memory, or nothing does
abbrev pub BeforeStops : Head → Head → RunFault → RunFault → Type 0
BeforeStops start head fault refused =
    (refused ≡ WantOfMemory) ⊎ ((refused ≡ fault) × (head.number ≡ start.number))

-- what a run came to that ends so
abbrev pub progress_of : ReportValue → Ending → Progress
progress_of report endings.Whole = Whole report
progress_of report (endings.Part applied count) = Part report applied count
progress_of report (endings.Before fault) = Before report fault
