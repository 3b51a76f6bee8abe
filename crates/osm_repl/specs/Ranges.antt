-- What the program does for the words `changes` and `tally`, which read a range of a folder's
-- numbers. `old` and `new` are what is seen of the store; `printed` is what was printed before, and
-- `after` what is printed then; `noted` are the lines on missing numbers.
use Rattle.std.specs.Prelude.{◌≡◌, ℕ, ◌⊎◌, List, [], Option, codes}
use Rattle.std.specs.Borrow.{Bor}
use Rattle.std.specs.Io.KnownBytes.{Appends}
use Rattle.std.specs.List.{flat_map}
use Rattle.osm_reading.specs.NumberLines.{numbered_line}
use Rattle.osm_reading.specs.Sequence.{SpellsSequence}
use Rattle.osm_store.specs.Frames.{IsKnown, StoreState}
use Rattle.osm_runs.specs.Reports.{ReportValue}
use Rattle.osm_runs.specs.Runs.{Blames}
use Rattle.osm_runs.specs.Writing.{WritingFault}
use Rattle.osm_runs.specs.declared.fault.RunFault.{RunFault}
use Rattle.osm_runs.specs.declared.fault.RunFault.TheVariants.{BadColumns, WantOfMemory}
use Rattle.osm_runs.specs.declared.options.FollowOptions.{FollowOptions}
use Rattle.osm_runs.specs.declared.options.Layout.{Layout}
use Rattle.osm_runs.specs.declared.progress.Progress.{Progress}
use Rattle.osm_runs.specs.declared.progress.Progress.TheVariants as outcomes
use Rattle.osm_range.specs.Ranges.{RangeStops}
use Rattle.osm_range.specs.declared.range.Ending.{Ending}
use Rattle.osm_range.specs.declared.range.Ending.TheVariants.{Faulty, Missing, Whole}
use Rattle.osm_range.specs.declared.range.Range.{Range}
use Rattle.osm_range.specs.declared.range.Reached.{Reached}
use Rattle.osm_range.specs.Handing.{HandingStops, IsHandedOn}
use Rattle.osm_range.specs.Columns.{IsNamed}
use Rattle.osm_range.specs.Runs.{IsTallied}
use Rattle.osm_range.specs.declared.columns.Columns.{Columns}
use Rattle.osm_repl.specs.Checks.{RefusesEnds}
use Rattle.osm_repl.specs.Execution.{TellsFault}
use Rattle.osm_words.specs.declared.orders.Order.{Order}
use Rattle.osm_words.specs.declared.orders.Order.TheVariants.{Audit, Changes, Counts, Fingerprint}
use Rattle.osm_words.specs.declared.orders.Order.TheVariants.{Get, Lag, Show, Tally}

abbrev pub IsChanges : Order → Type 0
IsChanges (Changes dir output from to) = Unit {0}
IsChanges order = ⊥

abbrev pub IsTally : Order → Type 0
IsTally (Tally dir from to by) = Unit {0}
IsTally order = ⊥

-- the range whose first and last number two words spell
pub record SpellsRange (from to : List ℕ) (range : Range) : Type 0 where
  pub first : SpellsSequence from range.from
  pub last : SpellsSequence to range.to

-- ---- the word `changes`

-- the changes of the range that the words spell were handed on under the filter, and the run came
-- to that
abbrev pub HandsOn : FollowOptions → Order → StoreState → StoreState → Progress → Type 0
HandsOn options (Changes dir output from to) old new progress =
    (range : Range) × SpellsRange from.now to.now range
    × IsHandedOn (IsKnown old) options.filter options.layout dir.now output.now range old.files
    new.files progress
HandsOn options order old new progress = ⊥

-- why none are handed on: a word spells no number, or the run is refused
abbrev pub StopsChanges : Order → StoreState → RunFault → Type 0
StopsChanges (Changes dir output from to) old fault =
    RefusesEnds from.now to.now fault
    ⊎ ((range : Range) × SpellsRange from.now to.now range
    × HandingStops (IsKnown old) old.files dir.now output.now range fault)
StopsChanges order old fault = ⊥

-- they were handed on up to the last number, or to one before missing ones, the report was printed,
-- and its status is the program's
pub record IsChanged (options : FollowOptions) (order : Order) (old new : StoreState)
    (printed after : Option (List ℕ)) (status : ℕ) : Type 0 where
  pub report : ReportValue
  pub handed : HandsOn options order old new (outcomes.Whole report)
  pub all : Appends printed after report.text
  pub status_is : status ≡ report.status

-- none were handed on, all files are as they were, and nothing was printed but perhaps the line of
-- the fault
pub record IsChangesStopped (options : FollowOptions) (order : Order) (old new : StoreState)
    (printed after : Option (List ℕ)) (fault : RunFault) : Type 0 where
  pub stops : StopsChanges order old fault
  pub leaves : new.files ≡ old.files
  pub device : Blames old.failures new.failures fault
  pub told : TellsFault order options.layout fault printed after

-- they were handed on up to the number before a faulty one, that was printed, and the fault is that
-- of the faulty number
pub record IsChangedBefore (options : FollowOptions) (order : Order) (old new : StoreState)
    (printed after : Option (List ℕ)) (fault : RunFault) : Type 0 where
  pub report : ReportValue
  pub handed : HandsOn options order old new (outcomes.Before report fault)
  pub all : Appends printed after report.text

-- the report of what a run came to
abbrev pub report_in : Progress → ReportValue
report_in (outcomes.Whole report) = report
report_in (outcomes.Part report applied count) = report
report_in (outcomes.Before report fault) = report

-- they were handed on, but standard output didn't take all of the report
pub record IsChangedUnprinted (options : FollowOptions) (order : Order) (old new : StoreState)
    (printed after : Option (List ℕ)) (fault : RunFault) : Type 0 where
  pub progress : Progress
  pub handed : HandsOn options order old new progress
  pub cut : WritingFault printed after (report_in progress).text fault

-- why the word `changes` isn't done
abbrev pub IsNotChanged : FollowOptions → Order → StoreState → StoreState → Option (List ℕ)
    → Option (List ℕ) → RunFault → Type 0
IsNotChanged options order old new printed after fault =
    IsChangesStopped options order old new printed after fault
    ⊎ IsChangedBefore options order old new printed after fault
    ⊎ IsChangedUnprinted options order old new printed after fault

-- ---- the word `tally`

-- the word names no columns
abbrev pub RefusesColumns : Option (Bor (List ℕ)) → RunFault → Type 0
RefusesColumns by fault =
    (fault ≡ BadColumns) × ((columns : Columns) → IsNamed by columns → ⊥)

-- the changes of the range that the words spell were counted by the columns that they name
abbrev pub Tallies : Layout → Order → StoreState → List ℕ → Reached → Type 0
Tallies layout (Tally dir from to by) old text reached =
    (columns : Columns) × IsNamed by columns
    × ((range : Range) × SpellsRange from.now to.now range
    × IsTallied (IsKnown old) old.files dir.now range layout columns text reached)
Tallies layout order old text reached = ⊥

-- why none are counted: a word names no columns, or one spells no number, or the range isn't read;
-- the columns are looked at first, and then the words of the range
abbrev pub StopsTally : Order → StoreState → RunFault → Type 0
StopsTally (Tally dir from to by) old fault =
    RefusesColumns by fault
    ⊎ (((columns : Columns) × IsNamed by columns) × (RefusesEnds from.now to.now fault
    ⊎ ((range : Range) × SpellsRange from.now to.now range
    × RangeStops (IsKnown old) old.files dir.now range fault)))
StopsTally order old fault = ⊥

-- the status of a tally that was printed, 1 if a number is missing, and `missing K` for each one
abbrev pub EndsTally : Ending → ℕ → List ℕ → Type 0
EndsTally Whole status noted = (status ≡ 0) × (noted ≡ [])
EndsTally (Missing missing) status noted =
    (status ≡ 1) × (noted ≡ flat_map (numbered_line (codes "missing ")) missing.items)
EndsTally (Faulty fault) status noted = ⊥

-- why it ends with a fault: a number is faulty, or there is no memory for the lines of missing ones
abbrev pub FailsTally : Ending → RunFault → Type 0
FailsTally Whole fault = ⊥
FailsTally (Missing missing) fault = fault ≡ WantOfMemory
FailsTally (Faulty why) fault = fault ≡ why

-- all rows were printed
abbrev pub PrintsTally : List ℕ → Ending → Option (List ℕ) → Option (List ℕ) → List ℕ → ℕ → Type 0
PrintsTally text ending printed after noted status =
    Appends printed after text × EndsTally ending status noted

-- not all rows were printed; or all were, and it ends with a fault
abbrev pub CutsTally : List ℕ → Ending → Option (List ℕ) → Option (List ℕ) → RunFault → Type 0
CutsTally text ending printed after fault =
    WritingFault printed after text fault ⊎ (Appends printed after text × FailsTally ending fault)

-- the range was counted and printed
pub record IsTallyDone (layout : Layout) (order : Order) (old : StoreState)
    (printed after : Option (List ℕ)) (noted : List ℕ) (status : ℕ) : Type 0 where
  pub text : List ℕ
  pub reached : Reached
  pub tallies : Tallies layout order old text reached
  pub prints : PrintsTally text reached.ending printed after noted status

-- nothing was counted or printed
pub record IsTallyStopped (order : Order) (old new : StoreState)
    (printed after : Option (List ℕ)) (fault : RunFault) : Type 0 where
  pub stops : StopsTally order old fault
  pub device : Blames old.failures new.failures fault
  pub unprinted : after ≡ printed

-- the range was counted, and that was printed at least in part
pub record IsTallyCut (layout : Layout) (order : Order) (old : StoreState)
    (printed after : Option (List ℕ)) (fault : RunFault) : Type 0 where
  pub text : List ℕ
  pub reached : Reached
  pub tallies : Tallies layout order old text reached
  pub cuts : CutsTally text reached.ending printed after fault

-- why the word `tally` isn't done
abbrev pub IsNotTallied : Layout → Order → StoreState → StoreState → Option (List ℕ)
    → Option (List ℕ) → RunFault → Type 0
IsNotTallied layout order old new printed after fault =
    IsTallyStopped order old new printed after fault
    ⊎ IsTallyCut layout order old printed after fault

-- ---- what only reads

-- the order changes no file, whatever is known of the files
abbrev pub LeavesFiles : Order → Type 0
LeavesFiles (Audit dir from to) = Unit {0}
LeavesFiles (Tally dir from to by) = Unit {0}
LeavesFiles (Get save referred) = Unit {0}
LeavesFiles (Counts save by csv) = Unit {0}
LeavesFiles (Fingerprint save) = Unit {0}
LeavesFiles (Lag dir save) = Unit {0}
LeavesFiles (Show save) = Unit {0}
LeavesFiles order = ⊥
