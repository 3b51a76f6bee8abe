-- What the program does for an order that is a replay of standard input, or a run over the files
-- that gives a report. `known` says that it is known what the files hold; `options` has the filter
-- of the saves that `follow` and `begin` write, the limit of `follow`, and the layout of what
-- `follow`, `lag` and `audit` print; `sizes` says which saves `follow` writes anew, and how long a
-- journal becomes. `printed` is what was printed before, and `after` what is printed then.
use Rattle.std.specs.Prelude.{◌≡◌, ℕ, zero, suc, ◌-◌, ◌≤◌, ◌<◌, ◌⊎◌, List, None, OnOk, Option}
use Rattle.std.specs.Prelude.{Result, Some, false, take}
use Rattle.std.specs.Io.KnownBytes.{Appends}
use Rattle.osm_range.specs.Printed.{fault_data as changes_fault_data}
use Rattle.osm_runs.specs.JsonLine.{fault_data, json_line}
use Rattle.osm_model.specs.Filter.{FilterValue}
use Rattle.osm_model.specs.Limits.{max_sequence}
use Rattle.osm_publisher.specs.Published.{PublishedValue}
use Rattle.osm_reading.specs.Sequence.{SpellsSequence}
use Rattle.osm_beginning.specs.Beginning.{IsBaseOf, IsTimely}
use Rattle.osm_beginning.specs.Keeping.{BeginKeptStops, IsBegunBoth, IsDropped, LeavesBegun}
use Rattle.osm_publishing.specs.Conversion.{ConvertStops, IsConverted}
use Rattle.osm_exporting.specs.Exporting.{IsExportOf}
use Rattle.osm_exporting.specs.Keeping.{ExportKeptStops, IsExportedKept}
use Rattle.osm_kept.specs.Names.{journal_name_of}
use Rattle.osm_store.specs.Files.{Files, HasFailed, Spends}
use Rattle.osm_store.specs.Frames.{IsKnown, StoreState}
use Rattle.osm_runs.specs.Folder.{IsApart, IsFolderOf}
use Rattle.osm_runs.specs.Following.{IsFollowReport, limited}
use Rattle.osm_runs.specs.Keeping.{IsKeptOf}
use Rattle.osm_publishing.specs.KeptLag.{IsKeptLag, KeptLagStops}
use Rattle.osm_publishing.specs.Lagging.{IsLagOf, IsLagReport, LagStopsOver}
use Rattle.osm_publishing.specs.Numbered.{IsAddedAs, IsPublishedAs, NumberedStops}
use Rattle.osm_publishing.specs.Numbered.{NumberedStopsOver}
use Rattle.osm_runs.specs.Progress.{IsPartReport, IsProgressReport}
use Rattle.osm_publishing.specs.Publication.{PublishStopsOver, IsAdded, IsPublished, PublishStops}
use Rattle.osm_runs.specs.Reports.{ReportValue, begin_report_of, convert_report_of}
use Rattle.osm_runs.specs.Reports.{publish_report_of}
use Rattle.osm_runs.specs.Runs.{Blames}
use Rattle.osm_runs.specs.declared.fault.FileName.TheVariants.{Output}
use Rattle.osm_runs.specs.declared.fault.RunFault.{RunFault}
use Rattle.osm_runs.specs.declared.fault.RunFault.TheVariants.{WantOfMemory, WriteFault}
use Rattle.osm_runs.specs.declared.options.FollowOptions.{FollowOptions}
use Rattle.osm_runs.specs.declared.options.Layout.{Layout}
use Rattle.osm_runs.specs.declared.options.Layout.TheVariants.{Json, Lines}
use Rattle.osm_runs.specs.declared.progress.Progress.{Progress}
use Rattle.osm_runs.specs.declared.progress.Progress.TheVariants.{Whole, Part, Before}
use Rattle.osm_printing.specs.Keeping as printing
use Rattle.osm_printing.specs.Keeping.{IsKeptShown}
use Rattle.osm_printing.specs.Printing.{CopyStops, IsReadFault, IsShowReport, IsShownOf}
use Rattle.osm_round.specs.Keeping.{IsFollowed}
use Rattle.osm_round.specs.KeepingOver.{IsKeptAfter, KeepingStopsOver}
use Rattle.osm_round.specs.KeepingStops.{FollowStops}
use Rattle.osm_round.specs.Rounds.{MayTakeMore}
use Rattle.osm_round.specs.declared.kept.Sizes.{Sizes}
use Rattle.osm_script.specs.Replay.{ReplayFault, ReplayLeaves, Replays}
use Rattle.osm_script.specs.declared.fault.ScriptFault.{ScriptFault}
use Rattle.osm_repl.specs.declared.execution.Step.{Step}
use Rattle.osm_repl.specs.declared.execution.Step.TheVariants.{Done, PartDone}
use Rattle.osm_words.specs.declared.orders.Order.{Order}
use Rattle.osm_words.specs.declared.orders.Order.TheVariants.{Replay, Publish, Follow, Lag, Show}
use Rattle.osm_words.specs.declared.orders.Order.TheVariants.{Audit, Begin, Changes, Convert}
use Rattle.osm_words.specs.declared.orders.Order.TheVariants.{Counts, Export, Fingerprint, Get}
use Rattle.osm_words.specs.declared.orders.Order.TheVariants.{PublishAs, Tally}
use Rattle.osm_repl.specs.declared.order_fault.OrderFault.{OrderFault}
use Rattle.osm_repl.specs.declared.order_fault.OrderFault.TheVariants.{Run, Script}

-- the order is a run over the files alone: each is, except a replay and the word `get`, which may
-- read standard input
abbrev pub IsOverFiles : Order → Type 0
IsOverFiles Replay = ⊥
IsOverFiles (Get save referred) = ⊥
IsOverFiles order = Unit {0}

-- the fault is that of a run
abbrev pub IsRunFault : (RunFault → Type 0) → OrderFault → Type 0
IsRunFault P (Run fault) = P fault
IsRunFault P (Script fault) = ⊥

-- the fault is that of a replay
abbrev pub IsScriptFault : (ScriptFault → Type 0) → OrderFault → Type 0
IsScriptFault P (Run fault) = ⊥
IsScriptFault P (Script fault) = P fault

-- the order is the word `follow`, which may be done up to a faulty number
abbrev pub IsFollow : Order → Type 0
IsFollow (Follow dir save) = Unit {0}
IsFollow order = ⊥

-- the order is one of the other runs that give a report, which is printed after the run; the word
-- `show` prints while it reads
abbrev pub IsOtherRun : Order → Type 0
IsOtherRun Replay = ⊥
IsOtherRun (Audit dir from to) = ⊥
IsOtherRun (Changes dir output from to) = ⊥
IsOtherRun (Tally dir from to by) = ⊥
IsOtherRun (Get save referred) = ⊥
IsOtherRun (Counts save by csv) = ⊥
IsOtherRun (Fingerprint save) = ⊥
IsOtherRun (Follow dir save) = ⊥
IsOtherRun (Show save) = ⊥
IsOtherRun order = Unit {0}

-- how many calls of the store a run makes at least if it is done
abbrev pub calls_of : Order → ℕ
calls_of (Publish dir changes now) = 6
calls_of (PublishAs dir changes now sequence) = 5
calls_of (Begin base state save) = 3
calls_of (Follow dir save) = 4
calls_of (Lag dir save) = 3
calls_of (Show save) = 1
calls_of (Export save output) = 4
calls_of (Convert input output) = 2
calls_of order = 0

-- what the run of the order does with files that are known, and its report
abbrev pub Does : FollowOptions → Sizes → Order → Files → Files → ReportValue → Type 0
Does options sizes (Publish dir changes now) old new report =
    IsPublished dir.now changes.now now.now old new report
Does options sizes (PublishAs dir changes now sequence) old new report =
    IsPublishedAs dir.now changes.now now.now sequence.now old new report
Does options sizes (Begin base state save) old new report =
    IsBegunBoth options.filter base.now state.now save.now old new report
    × (options.any_time ≡ false → IsTimely base.now state.now old)
Does options sizes (Follow dir save) old new report =
    IsFollowed (Unit {0}) options sizes dir.now save.now old new (Whole report)
Does options sizes (Lag dir save) old new report =
    IsKeptLag options.layout dir.now save.now old report
Does options sizes (Show save) old new report =
    IsKeptShown (old save.now) (old (journal_name_of save.now)) report
Does options sizes (Export save output) old new report =
    IsExportedKept save.now output.now old new
Does options sizes (Convert input output) old new report =
    IsConverted input.now output.now old new
Does options sizes order old new report = ⊥

-- the same, if the folder is that of published sequences, and what the save and its journal keep,
-- or the data file, is theirs; the words `lag`, `show` and `export` go by the save's own filter
abbrev pub DoesOver : FollowOptions → Order → Files → Files → ReportValue → Type 0
DoesOver options (Publish dir changes now) old new report =
    (published : List PublishedValue) → IsFolderOf published old dir.now
    → IsAdded published dir.now changes.now now.now old new report
DoesOver options (PublishAs dir changes now sequence) old new report =
    (published : List PublishedValue) → IsFolderOf published old dir.now
    → IsAddedAs published dir.now changes.now now.now sequence.now old new report
DoesOver options (Begin base state save) old new report =
    (published : List PublishedValue) (number : ℕ)
    → IsBaseOf published number base.now state.now old
    → IsKeptOf published options.filter number number save.now new
    × (report ≡ begin_report_of number)
DoesOver options (Follow dir save) old new report =
    (published : List PublishedValue) (base number : ℕ) → IsFolderOf published old dir.now
    → IsKeptOf published options.filter base number save.now old
    → IsKeptAfter published options base number dir.now save.now old new report
DoesOver options (Lag dir save) old new report =
    (published : List PublishedValue) (own : FilterValue) (base number : ℕ)
    → IsFolderOf published old dir.now → IsKeptOf published own base number save.now old
    → IsLagOf options.layout published base number report
DoesOver options (Show save) old new report =
    (published : List PublishedValue) (own : FilterValue) (base number : ℕ)
    → IsKeptOf published own base number save.now old
    → IsShownOf published own base number report
DoesOver options (Export save output) old new report =
    (published : List PublishedValue) (own : FilterValue) (base number : ℕ)
    → IsKeptOf published own base number save.now old
    → IsExportOf published own number output.now (new output.now)
DoesOver options order old new report = Unit {0}

-- the report of such a run, whatever is known of the files
abbrev pub IsReportOf : FollowOptions → Order → ReportValue → Type 0
IsReportOf options (Publish dir changes now) report = (n : ℕ) × (report ≡ publish_report_of n)
IsReportOf options (PublishAs dir changes now sequence) report =
    (n : ℕ) × SpellsSequence sequence.now n × (report ≡ publish_report_of n)
IsReportOf options (Begin base state save) report =
    (n : ℕ) × (0 < n) × (report ≡ begin_report_of n)
IsReportOf options (Follow dir save) report = IsFollowReport options.layout None report
IsReportOf options (Lag dir save) report = IsLagReport options.layout report
IsReportOf options (Show save) report = IsShowReport report
IsReportOf options (Export save output) report = report ≡ convert_report_of
IsReportOf options (Convert input output) report = report ≡ convert_report_of
IsReportOf options order report = ⊥

-- why the run of the order stops
abbrev pub RunStops :
    Type 0 → FollowOptions → Sizes → Order → Files → Files → RunFault → Type 0
RunStops known options sizes (Publish dir changes now) old new fault =
    PublishStops known dir.now changes.now now.now old new fault
RunStops known options sizes (PublishAs dir changes now sequence) old new fault =
    NumberedStops known dir.now changes.now now.now sequence.now old new fault
RunStops known options sizes (Begin base state save) old new fault =
    BeginKeptStops known options.any_time options.filter base.now state.now save.now old fault
RunStops known options sizes (Follow dir save) old new fault =
    FollowStops known options sizes dir.now save.now old fault
RunStops known options sizes (Lag dir save) old new fault =
    KeptLagStops known dir.now save.now old fault
RunStops known options sizes (Show save) old new fault =
    printing.KeepingStops known save.now old fault
RunStops known options sizes (Export save output) old new fault =
    ExportKeptStops known save.now output.now old fault
RunStops known options sizes (Convert input output) old new fault =
    ConvertStops known input.now output.now old fault
RunStops known options sizes order old new fault = ⊥

-- the same, if the folder is that of published sequences, and what the save and its journal keep is
-- theirs
abbrev pub StopsOver : FollowOptions → Order → Files → Files → RunFault → Type 0
StopsOver options (Publish dir changes now) old new fault =
    (published : List PublishedValue) → IsFolderOf published old dir.now
    → PublishStopsOver published now.now fault
StopsOver options (PublishAs dir changes now sequence) old new fault =
    (published : List PublishedValue) → IsFolderOf published old dir.now
    → NumberedStopsOver published dir.now changes.now now.now sequence.now old fault
StopsOver options (Follow dir save) old new fault =
    (published : List PublishedValue) (base number : ℕ) → IsFolderOf published old dir.now
    → IsKeptOf published options.filter base number save.now old
    → KeepingStopsOver published options.filter (old save.now) (old (journal_name_of save.now))
    fault
StopsOver options (Lag dir save) old new fault =
    (published : List PublishedValue) (own : FilterValue) (base number : ℕ)
    → IsFolderOf published old dir.now → IsKeptOf published own base number save.now old
    → LagStopsOver published number save.now old fault
StopsOver options order old new fault = Unit {0}

-- what a run that stops leaves: all files as they were, with two exceptions. A publication, which
-- may be cut off, leaves the folder of what was published before. The word `begin` may leave an
-- empty journal if there was none of its save. If it fails later, it may leave its new save beside
-- a journal of the old one, which began with the same lines, or beside one of another save that
-- ends above, of which the fault tells
abbrev pub Leaves : Type 0 → FollowOptions → Order → Files → Files → RunFault → Type 0
Leaves known options (Publish dir changes now) old new fault =
    known → (published : List PublishedValue) → IsFolderOf published old dir.now
    → IsFolderOf published new dir.now
Leaves known options (PublishAs dir changes now sequence) old new fault =
    known → (published : List PublishedValue) → IsFolderOf published old dir.now
    → IsFolderOf published new dir.now
Leaves known options (Begin base state save) old new fault =
    known → LeavesBegun options.filter base.now state.now save.now old new fault
Leaves known options order old new fault = new ≡ old

-- which journal the word `begin` emptied; no other order empties one
abbrev pub Drops : Order → Files → Files → Option ℕ → Type 0
Drops (Begin base state save) old new told =
    IsDropped (old (journal_name_of save.now)) (new (journal_name_of save.now)) told
Drops order old new told = told ≡ None

-- the name is neither that of the save nor that of its journal
abbrev pub IsBeside : List ℕ → List ℕ → Type 0
IsBeside save name = (name ≡ save → ⊥) × (name ≡ journal_name_of save → ⊥)

-- the names that the order doesn't change, however it ends
abbrev pub IsUntouched : Order → List ℕ → Type 0
IsUntouched (Publish dir changes now) name = IsApart dir.now name
IsUntouched (PublishAs dir changes now sequence) name = IsApart dir.now name
IsUntouched (Begin base state save) name = IsBeside save.now name
IsUntouched (Follow dir save) name = IsBeside save.now name
IsUntouched (Export save output) name = name ≡ output.now → ⊥
IsUntouched (Convert input output) name = name ≡ output.now → ⊥
IsUntouched (Changes dir output from to) name = name ≡ output.now → ⊥
IsUntouched order name = Unit {0}

-- a run of an order: what it is asked for, and the store before and after it
pub record Execution : Type 0 where
  pub options : FollowOptions
  pub sizes : Sizes
  pub order : Order
  pub old : StoreState
  pub new : StoreState

abbrev pub execution_of : FollowOptions → Sizes → Order → StoreState → StoreState → Execution
execution_of options sizes order old new =
    record { options = options; sizes = sizes; order = order; old = old; new = new }

-- what holds of the store however a run ends: no name changes that isn't the order's to change, and
-- a run that is done makes its calls
pub record CarriesOut {T E : Type 0} (order : Order) (old new : StoreState) (result : Result T E)
    : Type 0 where
  pub untouched :
      IsKnown old → (name : List ℕ) → IsUntouched order name → new.files name ≡ old.files name
  pub known : new.is_known ≡ old.is_known
  pub left : OnOk result (Spends (calls_of order) old.left new.left)
  pub left_after : Spends 0 old.left new.left
  pub kept : old.failures ≤ new.failures

-- a run was done, and gave that report
pub record IsRun (e : Execution) (report : ReportValue) : Type 0 where
  pub does : IsKnown e.old → Does e.options e.sizes e.order e.old.files e.new.files report
  pub over : IsKnown e.old → DoesOver e.options e.order e.old.files e.new.files report
  pub report_is : IsReportOf e.options e.order report

-- a run stopped for that fault
pub record HasStopped (e : Execution) (fault : RunFault) : Type 0 where
  pub stops : RunStops (IsKnown e.old) e.options e.sizes e.order e.old.files e.new.files fault
  pub over : IsKnown e.old → StopsOver e.options e.order e.old.files e.new.files fault
  pub leaves : Leaves (IsKnown e.old) e.options e.order e.old.files e.new.files fault
  pub device : Blames e.old.failures e.new.failures fault

-- a run was done, its report was printed, and its status is the program's
pub record IsDone (e : Execution) (printed after : Option (List ℕ)) (status : ℕ) : Type 0 where
  pub report : ReportValue
  pub run : IsRun e report
  pub all : Appends printed after report.text
  pub status_is : status ≡ report.status

-- the report of the order is in that layout: it is always in lines, except for `follow` and `lag`
abbrev pub layout_of : FollowOptions → Order → Layout
layout_of options (Follow dir save) = options.layout
layout_of options (Lag dir save) = options.layout
layout_of options order = Lines

-- a fault of which a line of JSON is made: none is if memory is wanted
abbrev pub IsTold : RunFault → Type 0
IsTold WantOfMemory = ⊥
IsTold fault = Unit {0}

-- the line of JSON of a run of the order that was refused for a fault with that text
abbrev pub fault_line_of : Order → List ℕ → List ℕ
fault_line_of (Changes dir output from to) said = json_line (changes_fault_data said)
fault_line_of order said = json_line (fault_data said)

-- the line of the order for some text of a fault, or a prefix of it if standard output didn't take
-- all
pub record IsFaultLine (order : Order) (printed after : Option (List ℕ)) : Type 0 where
  pub said : List ℕ
  pub count : ℕ
  pub line : Appends printed after (take count (fault_line_of order said))

-- what is printed of a fault: nothing in lines, and in JSON its line, unless there is no memory for
-- that
abbrev pub TellsFault : Order → Layout → RunFault → Option (List ℕ) → Option (List ℕ) → Type 0
TellsFault order Lines fault printed after = after ≡ printed
TellsFault order Json fault printed after =
    (after ≡ printed) ⊎ (IsTold fault × IsFaultLine order printed after)

-- a run stopped, and nothing was printed but perhaps the line of its fault
pub record IsStopped (e : Execution) (printed after : Option (List ℕ)) (fault : RunFault) : Type 0
  where
    pub stopped : HasStopped e fault
    pub told : TellsFault e.order (layout_of e.options e.order) fault printed after

-- a run was done, but standard output didn't take all of its report
pub record IsCutShort (e : Execution) (printed after : Option (List ℕ)) (fault : RunFault) : Type 0
  where
    pub report : ReportValue
    pub run : IsRun e report
    pub fault_is : fault ≡ WriteFault Output
    pub count : ℕ
    pub some : Appends printed after (take count report.text)

-- the word `follow` kept what comes before a faulty number, and gave that report
abbrev pub KeepsBefore :
    Type 0 → FollowOptions → Sizes → Order → Files → Files → RunFault → ReportValue → Type 0
KeepsBefore known options sizes (Follow dir save) old new fault report =
    (known → IsFollowed known options sizes dir.now save.now old new (Before report fault))
    × IsProgressReport options.layout (Before report fault)
KeepsBefore known options sizes order old new fault report = ⊥

abbrev pub Keeps : Execution → RunFault → ReportValue → Type 0
Keeps e fault report =
    KeepsBefore (IsKnown e.old) e.options e.sizes e.order e.old.files e.new.files fault report

-- ---- the word `follow`, part after part

-- where a run goes on: under which options, over which store, and after what was printed
pub record Place : Type 0 where
  pub options : FollowOptions
  pub store : StoreState
  pub printed : Option (List ℕ)

-- what is left of a limit after so many numbers; no limit is that of all numbers that there can be
abbrev pub left_of : Option ℕ → ℕ → ℕ
left_of None count = max_sequence - count
left_of (Some limit) count = limit - count

-- the same options for what is left
abbrev pub options_after : FollowOptions → ℕ → FollowOptions
options_after options count = limited (left_of options.limit count) options

-- the word `follow` came to a part of what there is
pub record IsPart (options : FollowOptions) (sizes : Sizes) (dir save : List ℕ)
    (old new : StoreState) (report applied : ReportValue) (count : ℕ) : Type 0 where
  pub part : IsKnown old → IsFollowed (Unit {0}) options sizes dir save old.files new.files
      (Part report applied count)
  pub over : IsKnown old → (published : List PublishedValue) (base number : ℕ)
      → IsFolderOf published old.files dir
      → IsKeptOf published options.filter base number save old.files
      → IsKeptAfter published (limited count options) base number dir save old.files new.files
      report
  pub form : IsPartReport options.layout report applied count

abbrev pub IsPartOf : FollowOptions → Sizes → Order → StoreState → StoreState → ReportValue
    → ReportValue → ℕ → Type 0
IsPartOf options sizes (Follow dir save) old new report applied count =
    IsPart options sizes dir.now save.now old new report applied count
IsPartOf options sizes order old new report applied count = ⊥

-- it did so, and its lines were printed
pub record TakesPart (sizes : Sizes) (dir save : List ℕ) (from to : Place) : Type 0 where
  pub report : ReportValue
  pub applied : ReportValue
  pub count : ℕ
  pub part : IsPart from.options sizes dir save from.store to.store report applied count
  pub all : Appends from.printed to.printed applied.text
  pub options_are : to.options ≡ options_after from.options count
  pub known : to.store.is_known ≡ from.store.is_known

-- it did so that many times, one after the other
abbrev pub TakesParts : Sizes → List ℕ → List ℕ → ℕ → Place → Place → Type 0
TakesParts sizes dir save zero from to = to ≡ from
TakesParts sizes dir save (suc parts) from to = (between : Place)
    × TakesParts sizes dir save parts from between × TakesPart sizes dir save between to

-- only the word `follow` takes parts
abbrev pub ComesFrom : Sizes → Order → ℕ → Place → Place → Type 0
ComesFrom sizes (Follow dir save) parts from to =
    TakesParts sizes dir.now save.now parts from to
ComesFrom sizes order parts from to = to ≡ from

-- this holds of the run that is left after some parts, and of what was printed before it. The calls
-- that failed in the parts are among those of the whole run
pub record AfterParts (e : Execution) (printed : Option (List ℕ))
    (holds : Execution → Option (List ℕ) → Type 0) : Type 0 where
  pub parts : ℕ
  pub place : Place
  pub comes : ComesFrom e.sizes e.order parts
      (record { options = e.options; store = e.old; printed = printed }) place
  pub failed_before : e.old.failures ≤ place.store.failures
  pub failed_after : place.store.failures ≤ e.new.failures
  pub rest : holds (execution_of place.options e.sizes e.order place.store e.new) place.printed

-- what the word `follow` did in one of its parts, or in the last one
abbrev pub HasFollowed : Execution → Progress → Type 0
HasFollowed e (Whole report) = IsRun e report
HasFollowed e (Part report applied count) =
    IsPartOf e.options e.sizes e.order e.old e.new report applied count
HasFollowed e (Before report fault) = Keeps e fault report

-- what a step of it came to: all, with its status, or a part of so many numbers, whose lines were
-- printed
abbrev pub IsStep : Execution → Option (List ℕ) → Option (List ℕ) → Step → Type 0
IsStep e printed after (Done status) = IsDone e printed after status
IsStep e printed after (PartDone count) =
    (report : ReportValue) × (applied : ReportValue)
    × IsPartOf e.options e.sizes e.order e.old e.new report applied count
    × Appends printed after applied.text

-- a part is less than it may take
abbrev pub IsStepLess : Option ℕ → Step → Type 0
IsStepLess limit (PartDone count) = MayTakeMore limit count
IsStepLess limit (Done status) = Unit {0}

-- it took a part, but standard output didn't take all of its lines: no further one was begun
pub record IsCutInPart (e : Execution) (printed after : Option (List ℕ)) (fault : RunFault) : Type 0
  where
    pub report : ReportValue
    pub applied : ReportValue
    pub count : ℕ
    pub part : IsPartOf e.options e.sizes e.order e.old e.new report applied count
    pub fault_is : fault ≡ WriteFault Output
    pub length : ℕ
    pub some : Appends printed after (take length applied.text)

-- it kept what comes before a faulty number, that was printed, and the fault is that number's
pub record IsPrintedBefore (e : Execution) (printed after : Option (List ℕ)) (fault : RunFault)
    : Type 0 where
  pub report : ReportValue
  pub keeps : Keeps e fault report
  pub all : Appends printed after report.text

-- it kept that, but standard output didn't take all of the report
pub record IsCutBefore (e : Execution) (printed after : Option (List ℕ)) (fault : RunFault) : Type 0
  where
    pub report : ReportValue
    pub first : RunFault
    pub keeps : Keeps e first report
    pub fault_is : fault ≡ WriteFault Output
    pub count : ℕ
    pub some : Appends printed after (take count report.text)

-- why the word `show` stops while it prints
abbrev pub StopsPrinting : Type 0 → Order → Files → RunFault → Type 0
StopsPrinting known (Show save) old fault = CopyStops known (old save.now) fault
StopsPrinting known order old fault = ⊥

-- the word `show` stopped while it printed: the save and its journal keep something, and a prefix
-- of its report was printed
pub record IsShownInPart (e : Execution) (printed after : Option (List ℕ)) (fault : RunFault)
    : Type 0 where
  pub report : ReportValue
  pub run : IsRun e report
  pub stops : StopsPrinting (IsKnown e.old) e.order e.old.files fault
  pub leaves : Leaves (IsKnown e.old) e.options e.order e.old.files e.new.files fault
  pub device : IsReadFault fault → HasFailed e.old.failures e.new.failures
  pub count : ℕ
  pub some : Appends printed after (take count report.text)

-- why an order over the files isn't done: its run stops, or its report isn't printed, or it is done
-- up to a faulty number or to a part; the files that the run wrote then stay
abbrev pub IsNotDone : Execution → Option (List ℕ) → Option (List ℕ) → RunFault → Type 0
IsNotDone e printed after fault =
    IsStopped e printed after fault
    ⊎ IsCutShort e printed after fault
    ⊎ IsPrintedBefore e printed after fault
    ⊎ IsCutBefore e printed after fault
    ⊎ IsCutInPart e printed after fault
    ⊎ IsShownInPart e printed after fault

-- a replay was done: the replies were printed, and the status is 0
abbrev pub IsReplayed : Option (List ℕ) → Option (List ℕ) → Option (List ℕ) → ℕ → Type 0
IsReplayed input printed after status = (status ≡ 0) × Replays input printed after

-- why a replay isn't done, and what it leaves printed
abbrev pub IsNotReplayed :
    Option (List ℕ) → Option (List ℕ) → Option (List ℕ) → Option (List ℕ) → ScriptFault → Type 0
IsNotReplayed input rest printed after fault =
    ReplayFault input rest fault × ReplayLeaves input printed after fault
