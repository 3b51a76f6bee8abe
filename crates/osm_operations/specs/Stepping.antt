-- Steps of operations: what each does to the files of a store, and where a list of them leads.
use Rattle.std.specs.Prelude.{◌≡◌, ◌≢◌, ℕ, ◌+◌, ◌<◌, ◌≤◌, ◌⊎◌, List, [], ◌∷◌, length}
use Rattle.std.specs.Prelude.{Bool, true, false, Option, Some, None, is_none, is_some, min, max}
use Rattle.std.specs.Prelude.{string_bytes}
use Rattle.std.specs.Prelude.{IsTrue, Result, Ok, Err, IfErr, IfOk, OnErr}
use Rattle.osm_model.specs.Batch.{IsBatch}
use Rattle.osm_model.specs.Change.{ChangeValue}
use Rattle.osm_model.specs.Filter.{FilterValue}
use Rattle.osm_model.specs.Limits.{max_file, max_sequence}
use Rattle.osm_model.specs.Time.{Shows, TimeText}
use Rattle.osm_opl.specs.Written.{opl_text}
use Rattle.osm_reading.specs.Sequence.{SpellsSequence}
use Rattle.osm_state.specs.StateLaws.{NoFaultBesideState}
use Rattle.osm_state.specs.declared.paths.Suffix.{Suffix}
use Rattle.osm_save.specs.declared.save.Saved.{Saved}
use Rattle.osm_state.specs.declared.paths.Suffix.TheVariants.{O5c, Opl, State}
use Rattle.osm_publisher.specs.Published.{PublishedValue}
use Rattle.osm_beginning.specs.Beginning.{IsTimely}
use Rattle.osm_beginning.specs.Keeping.{BeginKeptStops, IsBegunBoth, IsSameOrEmpty, LeavesBegun}
use Rattle.osm_beginning.specs.Keeping.{begin_kept_calls}
use Rattle.osm_exporting.specs.Exporting.{IsExportOf}
use Rattle.osm_exporting.specs.Keeping.{ExportKeptStops, IsExportedKept, export_kept_calls}
use Rattle.osm_kept.specs.Laws.{BadKeepsNothing, EmptiedIsKept, EmptyIsNoOther, OneIsKept}
use Rattle.osm_kept.specs.Laws.{OneIsOther}
use Rattle.osm_kept.specs.Names.{journal_name_of}
use Rattle.osm_kept.specs.Refusal.{HasNoOther}
use Rattle.osm_merge.specs.Calls.{bytes_in}
use Rattle.osm_store.specs.Files.{Files, HasFewer, Puts}
use Rattle.osm_runs.specs.Folder.{IsApart, IsFolderOf}
use Rattle.osm_runs.specs.Following.{plainly}
use Rattle.osm_runs.specs.Keeping.{IsKept, IsKeptOf}
use Rattle.osm_publishing.specs.Numbered.{IsAddedAs, IsPublishedAs, NumberedOut, NumberedStopsOver}
use Rattle.osm_publishing.specs.Numbered.{NumberedStops, numbered_calls}
use Rattle.osm_publishing.specs.Publication.{PublishStopsOver, GoesOnFrom, IsPublished, PublishOut}
use Rattle.osm_publishing.specs.Publication.{PublishStops}
use Rattle.osm_runs.specs.Names.{file_name_of, top_name_of}
use Rattle.osm_runs.specs.Reports.{ReportValue, convert_report_of}
use Rattle.osm_runs.specs.Runs.{IsDeviceFault, LacksCalls}
use Rattle.osm_store.specs.Stores.{files_of}
use Rattle.osm_round.specs.Keeping.{IsFollowed}
use Rattle.osm_round.specs.KeepingOver.{KeepingStopsOver, kept_calls}
use Rattle.osm_round.specs.KeepingStops.{FollowStops}
use Rattle.osm_round.specs.declared.kept.Sizes.{Sizes}
use Rattle.osm_runs.specs.declared.fault.FileName.TheVariants as names
use Rattle.osm_runs.specs.declared.fault.FileName.TheVariants.{Changes}
use Rattle.osm_runs.specs.declared.fault.RunFault.{RunFault}
use Rattle.osm_runs.specs.declared.progress.Progress.{Progress}
use Rattle.osm_runs.specs.declared.progress.Progress.TheVariants.{Whole, Part, Before}
use Rattle.osm_runs.specs.declared.fault.RunFault.TheVariants.{WantOfMemory, ReadFault}
use Rattle.osm_runs.specs.declared.fault.RunFault.TheVariants.{WriteFault, TooLarge}
use Rattle.osm_runs.specs.declared.fault.RunFault.TheVariants.{OtherJournal}
use Rattle.osm_operations.specs.Killing.{HasCalls, IsKilled}
use Rattle.osm_operations.specs.Spoiling.{spoiled}
use Rattle.osm_operations.specs.declared.operation.Operation.{Operation}
use Rattle.osm_operations.specs.declared.operation.Operation.TheVariants.{Publish, PublishAs}
use Rattle.osm_operations.specs.declared.operation.Operation.TheVariants.{Follow, FollowOther}
use Rattle.osm_operations.specs.declared.operation.Operation.TheVariants.{FollowSpoiled}
use Rattle.osm_operations.specs.declared.operation.Operation.TheVariants.{Export, Begin}
use Rattle.osm_operations.specs.declared.operation.Operation.TheVariants.{Lose, PutBack}
use Rattle.osm_operations.specs.declared.operation.Reply.{Reply}
use Rattle.osm_operations.specs.declared.operation.Reply.TheVariants.{Published, Followed}
use Rattle.osm_operations.specs.declared.operation.Reply.TheVariants.{FollowedPart, FollowedBefore}
use Rattle.osm_operations.specs.declared.operation.Reply.TheVariants.{Exported, Begun}
use Rattle.osm_operations.specs.declared.operation.Reply.TheVariants.{CutShort, Refused, CutOff}
use Rattle.osm_operations.specs.declared.operation.Reply.TheVariants.{Lost, IsBack, NotThere}
use Rattle.osm_operations.specs.declared.runs.Spoiled.{Spoiled}
use Rattle.osm_operations.specs.declared.world.World.{World}

-- the file holds the batch in OPL
pub record AreChangesPut (name : List ℕ) (batch : List ChangeValue) (old new : Files) :
    Type 0 where
  pub limits : IsBatch batch
  pub small : length (opl_text batch) ≤ max_file
  pub put : Puts old name (Some (opl_text batch)) new

-- why the file isn't written
abbrev pub ChangesStop : List ChangeValue → RunFault → Type 0
ChangesStop batch WantOfMemory = Unit {0}
ChangesStop batch (TooLarge file) = (file ≡ Changes) × (max_file < length (opl_text batch))
ChangesStop batch fault = ⊥

-- a run of the publisher after the file of changes was written, and what it does to every folder
pub record IsPublishRun (dir changes : List ℕ) (batch : List ChangeValue) (time : ℕ)
    (old new : Files) (holds : List ℕ → Files → Type 0) : Type 0 where
  pub now : List ℕ
  pub middle : Files
  pub shows : Shows now time
  pub is_text : 1 ≤ time → TimeText now time
  pub there : AreChangesPut changes batch old middle
  pub is_so : holds now middle
  pub others : (name : List ℕ) → IsApart dir name → new name ≡ middle name

-- the run published
pub record Publishes (dir changes : List ℕ) (report : ReportValue) (new : Files)
    (now : List ℕ) (middle : Files) : Type 0 where
  pub published : IsPublished dir changes now middle new report

-- the run stopped; `left` says how many calls it could make, none is no limit
pub record StopsPublishing (left : Option ℕ) (dir changes : List ℕ) (fault : RunFault)
    (new : Files) (now : List ℕ) (middle : Files) : Type 0 where
  pub stops : PublishStops (IsTrue true) dir changes now middle new fault
  pub refuses : (published : List PublishedValue) → IsFolderOf published middle dir
      → PublishStopsOver published now fault
  pub keeps : (published : List PublishedValue) → IsFolderOf published middle dir
      → IsFolderOf published new dir
  pub out : PublishOut dir middle left fault

abbrev pub PublishStep : Option ℕ → List ℕ → List ℕ → List ChangeValue → ℕ
    → Result ReportValue RunFault → Files → Files → Type 0
PublishStep left dir changes batch time (Ok report) old new =
    IsPublishRun dir changes batch time old new (Publishes dir changes report new)
PublishStep left dir changes batch time (Err fault) old new =
    (ChangesStop batch fault × (new ≡ old))
    ⊎ IsPublishRun dir changes batch time old new (StopsPublishing left dir changes fault new)

-- the text of a publication's number
pub record IsNumberText (n : ℕ) (sequence : List ℕ) : Type 0 where
  pub only : (k : ℕ) → SpellsSequence sequence k → k ≡ n
  pub spelled : n ≤ max_sequence → SpellsSequence sequence n

-- the run published by number
pub record PublishesAs (left : Option ℕ) (dir changes : List ℕ) (n : ℕ) (report : ReportValue)
    (new : Files) (now : List ℕ) (middle : Files) : Type 0 where
  pub sequence : List ℕ
  pub number_is : IsNumberText n sequence
  pub published : IsPublishedAs dir changes now sequence middle new report
  pub added : (published : List PublishedValue) → IsFolderOf published middle dir
      → IsAddedAs published dir changes now sequence middle new report
  pub calls : (number top time : ℕ) → SpellsSequence sequence number
      → GoesOnFrom (middle (top_name_of dir)) top time → HasCalls (numbered_calls number top) left

-- the run by number stopped
pub record StopsPublishingAs (left : Option ℕ) (dir changes : List ℕ) (n : ℕ) (fault : RunFault)
    (new : Files) (now : List ℕ) (middle : Files) : Type 0 where
  pub sequence : List ℕ
  pub number_is : IsNumberText n sequence
  pub stops : NumberedStops (IsTrue true) dir changes now sequence middle new fault
  pub refuses : (published : List PublishedValue) → IsFolderOf published middle dir
      → NumberedStopsOver published dir changes now sequence middle fault
  pub keeps : (published : List PublishedValue) → IsFolderOf published middle dir
      → IsFolderOf published new dir
  pub out : NumberedOut dir sequence middle left fault

abbrev pub NumberedStep : Option ℕ → List ℕ → List ℕ → List ChangeValue → ℕ → ℕ
    → Result ReportValue RunFault → Files → Files → Type 0
NumberedStep left dir changes batch time n (Ok report) old new =
    IsPublishRun dir changes batch time old new (PublishesAs left dir changes n report new)
NumberedStep left dir changes batch time n (Err fault) old new =
    (ChangesStop batch fault × (new ≡ old))
    ⊎ IsPublishRun dir changes batch time old new (StopsPublishingAs left dir changes n fault new)

-- the device isn't to blame
abbrev pub IsNoDevice : RunFault → Type 0
IsNoDevice (ReadFault file) = ⊥
IsNoDevice (WriteFault file) = ⊥
IsNoDevice fault = Unit {0}

-- laws of saves with journals
pub record KeptLaws : Type 0 where
  pub one : OneIsKept
  pub nothing : BadKeepsNothing
  pub emptied : EmptiedIsKept
  pub no_bytes : EmptyIsNoOther
  pub one_other : OneIsOther

-- what a run of the word `follow` answers, by its contract
pub record FollowAnswer (given : FilterValue) (dir save : List ℕ) (w : Result Progress RunFault)
    (old new : Files) : Type 0 where
  pub sizes : Sizes
  pub fits : sizes.most ≤ max_file
  pub follows : IfOk w (λ progress. IsTrue true
      → IsFollowed (IsTrue true) (plainly given) sizes dir save old new progress)
  pub stops : IfErr w (FollowStops (IsTrue true) (plainly given) sizes dir save old)
  pub leaves : OnErr w (IsTrue true → new ≡ old)
  pub laws : KeptLaws

-- a beginning that is refused before its save is there leaves what is kept, and every file but the
-- journal, which may be empty now
pub record LeavesAll (save : List ℕ) (old new : Files) : Type 0 where
  pub kept : (given : FilterValue) (v : Saved) → IsKept given save old v → IsKept given save new v
  pub journal : IsSameOrEmpty (old (journal_name_of save)) (new (journal_name_of save))
  pub others : (name : List ℕ) → (name ≡ journal_name_of save → ⊥) → new name ≡ old name

-- what holds of a run over the folder of what was published, from a save and a journal in step
abbrev pub OverFolder :
    FilterValue → List ℕ → List ℕ → Files → (List PublishedValue → Type 0) → Type 0
OverFolder given dir save old holds = (published : List PublishedValue) (base number : ℕ)
    → IsFolderOf published old dir → IsKeptOf published given base number save old
    → holds published

-- what the word `follow` did: over the folder of what was published nothing is faulty. If it is
-- refused, no file changes, whatever they are
abbrev pub FollowStep :
    FilterValue → List ℕ → List ℕ → Result Progress RunFault → Files → Files → Type 0
FollowStep given dir save (Ok (Before report fault)) old new =
    OverFolder given dir save old (λ published. ⊥)
FollowStep given dir save (Ok progress) old new = FollowAnswer given dir save (Ok progress) old new
FollowStep given dir save (Err fault) old new =
    (new ≡ old) × OverFolder given dir save old (λ published.
    KeepingStopsOver published given (old save) (old (journal_name_of save)) fault)

-- a run of the word `follow` under another filter than the given one, if something is saved
pub record IsOtherRun (given other : FilterValue) (dir save : List ℕ)
    (w : Result Progress RunFault) (old new : Files) : Type 0 where
  pub there : is_none (old save) ≡ false
  pub differs : other ≢ given
  pub answer : FollowAnswer other dir save w old new
  pub device : IfErr w IsNoDevice

-- what the run answers; it isn't made if nothing is saved, or if the filter is no other
abbrev pub OtherAnswer : FilterValue → FilterValue → List ℕ → List ℕ
    → Option (Result Progress RunFault) → Files → Files → Type 0
OtherAnswer given other dir save None old new =
    ((old save ≡ None) ⊎ (other ≡ given)) × (new ≡ old)
OtherAnswer given other dir save (Some w) old new = IsOtherRun given other dir save w old new

-- a run that exports
pub record Exports (save extract : List ℕ) (report : ReportValue) (old new : Files) : Type 0 where
  pub exported : IsExportedKept save extract old new
  pub in_step : (published : List PublishedValue) (given : FilterValue) (base number : ℕ)
      → IsKeptOf published given base number save old
      → IsExportOf published given number extract (new extract)
  pub report_is : report ≡ convert_report_of
  pub free : HasNoOther (old save) (old (journal_name_of save))

-- what an export did. Memory may be refused before it, when the number of what is kept is read
abbrev pub ExportStep : List ℕ → List ℕ → Result ReportValue RunFault → Files → Files → Type 0
ExportStep save extract (Ok report) old new = Exports save extract report old new
ExportStep save extract (Err fault) old new =
    (new ≡ old) × ((fault ≡ WantOfMemory) ⊎ ExportKeptStops (IsTrue true) save extract old fault)

-- the number is that of whatever the save and its journal keep, if the journal isn't one of another
-- save that ends above the save
abbrev pub IsNumberKept : ℕ → List ℕ → Files → Type 0
IsNumberKept number save files =
    HasNoOther (files save) (files (journal_name_of save))
    → (given : FilterValue) (v : Saved) → IsKept given save files v → number ≡ v.number

-- the name of the state of a number; one that no sequence can have names that of another
abbrev pub state_name_of : List ℕ → ℕ → List ℕ
state_name_of dir number = file_name_of dir (min number max_sequence) State

-- a run that begins is done
pub record Begins (given : FilterValue) (extract state save : List ℕ) (report : ReportValue)
    (old new : Files) : Type 0 where
  pub begun : IsBegunBoth given extract state save old new report
  pub timely : IsTimely extract state old
  pub laws : KeptLaws

-- a run that begins stopped
pub record StopsBeginning (given : FilterValue) (extract state save : List ℕ) (fault : RunFault)
    (old new : Files) : Type 0 where
  pub stops : BeginKeptStops (IsTrue true) false given extract state save old fault
  pub leaves : LeavesBegun given extract state save old new fault
  pub law : NoFaultBesideState
  pub laws : KeptLaws

-- what a beginning did, at the state of that number
abbrev pub BeginStep : FilterValue → List ℕ → ℕ → List ℕ → List ℕ → Result ReportValue RunFault
    → Files → Files → Type 0
BeginStep given dir number extract save (Ok report) old new =
    Begins given extract (state_name_of dir number) save report old new
BeginStep given dir number extract save (Err fault) old new =
    ((fault ≡ WantOfMemory) × (new ≡ old))
    ⊎ StopsBeginning given extract (state_name_of dir number) save fault old new

-- a file is moved from one store to the other, or isn't there
abbrev pub Moves : Bool → List ℕ → Files → Files → Files → Files → Type 0
Moves true name from to from_after to_after =
    (bytes : List ℕ) × (from name ≡ Some bytes) × Puts to name (Some bytes) to_after
    × Puts from name None from_after
Moves false name from to from_after to_after =
    (from name ≡ None) × (from_after ≡ from) × (to_after ≡ to)

-- the count of published sequences goes up by one
abbrev pub GoesUp : ℕ → ℕ → Type 0
GoesUp old new = old < max_sequence → new ≡ old + 1

-- whether a number is that of a published sequence, if that many are published
abbrev pub IsNumber : Bool → ℕ → ℕ → Type 0
IsNumber true count n = (0 < n) × (n ≤ count) × (n ≤ max_sequence)
IsNumber false count n = (n ≡ 0) ⊎ (count < n) ⊎ (max_sequence < n)

-- an operation that publishes, if it is done
abbrev pub PublishTo : Option ℕ → List ℕ → List ℕ → List ChangeValue → ℕ → Reply → World → World
    → Type 0
PublishTo left dir changes batch time (Published report) a b =
    PublishStep left dir changes batch time (Ok report) (files_of a.store) (files_of b.store)
    × (b.lost ≡ a.lost) × GoesUp a.published b.published
PublishTo left dir changes batch time (Refused fault) a b =
    PublishStep left dir changes batch time (Err fault) (files_of a.store) (files_of b.store)
    × (b.lost ≡ a.lost) × (b.published ≡ a.published)
PublishTo left dir changes batch time r a b = ⊥

-- a lost file is there again, and is no longer a lost one; or it isn't
abbrev pub Returns : Bool → List ℕ → Files → Files → Files → Type 0
Returns true name store lost lost_after =
    (is_none (store name) ≡ false) × (is_none (lost name) ≡ false)
    × Puts lost name None lost_after
Returns false name store lost lost_after =
    ((store name ≡ None) ⊎ (lost name ≡ None)) × (lost_after ≡ lost)

-- the same of two files, one after the other
abbrev pub ReturnBoth : Bool → Bool → List ℕ → List ℕ → Files → Files → Files → Type 0
ReturnBoth o5c opl o5c_name opl_name store lost lost_after =
    (between : Files) × Returns o5c o5c_name store lost between
    × Returns opl opl_name store between lost_after

-- the same of the two forms of a sequence's changes
abbrev pub ReturnForms : Bool → Bool → List ℕ → ℕ → Files → Files → Files → Type 0
ReturnForms o5c opl dir n store lost lost_after =
    ReturnBoth o5c opl (file_name_of dir n O5c) (file_name_of dir n Opl) store lost lost_after

-- the form whose file is there again, if either is
abbrev pub form_back : Bool → Bool → Option Suffix
form_back true opl = Some O5c
form_back false true = Some Opl
form_back false false = None

-- the reply to a publication by number that stopped
abbrev pub stopped_reply : RunFault → Bool → Bool → Reply
stopped_reply fault true opl = CutOff fault O5c
stopped_reply fault false true = CutOff fault Opl
stopped_reply fault false false = Refused fault

-- the reply to a publication by number, from what its run answered
abbrev pub SettleTo : Result ReportValue RunFault → List ℕ → List ℕ → ℕ → Reply → World → World
    → Type 0
SettleTo (Ok report) o5c_name opl_name n r a b =
    (r ≡ Published report) × ((o5c opl : Bool) × ReturnBoth o5c opl o5c_name opl_name
    (files_of a.store) (files_of a.lost) (files_of b.lost)) × (b.published ≡ max a.published n)
SettleTo (Err fault) o5c_name opl_name n r a b =
    ((o5c opl : Bool) × (r ≡ stopped_reply fault o5c opl)
    × ReturnBoth o5c opl o5c_name opl_name (files_of a.store) (files_of a.lost) (files_of b.lost))
    × (b.published ≡ a.published)

-- the number whose files are named: one that no sequence can have names those of another
abbrev pub named : ℕ → ℕ
named n = max 1 (min n max_sequence)

-- an operation that publishes by number, by its reply
abbrev pub PublishAsTo : Option ℕ → List ℕ → List ℕ → List ChangeValue → ℕ → ℕ → Reply → World
    → World → Type 0
PublishAsTo left dir changes batch time n (Published report) a b =
    NumberedStep left dir changes batch time n (Ok report) (files_of a.store) (files_of b.store)
    × ((o5c opl : Bool) × ReturnForms o5c opl dir (named n) (files_of b.store) (files_of a.lost)
    (files_of b.lost)) × (b.published ≡ max a.published n)
PublishAsTo left dir changes batch time n (CutOff fault O5c) a b =
    NumberedStep left dir changes batch time n (Err fault) (files_of a.store) (files_of b.store)
    × ((opl : Bool) × ReturnForms true opl dir (named n) (files_of b.store) (files_of a.lost)
    (files_of b.lost)) × (b.published ≡ a.published)
PublishAsTo left dir changes batch time n (CutOff fault Opl) a b =
    NumberedStep left dir changes batch time n (Err fault) (files_of a.store) (files_of b.store)
    × ReturnForms false true dir (named n) (files_of b.store) (files_of a.lost) (files_of b.lost)
    × (b.published ≡ a.published)
PublishAsTo left dir changes batch time n (Refused fault) a b =
    ((fault ≡ WantOfMemory) × (b ≡ a))
    ⊎ (NumberedStep left dir changes batch time n (Err fault) (files_of a.store)
    (files_of b.store)
    × ReturnForms false false dir (named n) (files_of b.store) (files_of a.lost) (files_of b.lost)
    × (b.published ≡ a.published))
PublishAsTo left dir changes batch time n r a b = ⊥

abbrev pub FollowTo : FilterValue → List ℕ → List ℕ → Reply → World → World → Type 0
FollowTo given dir save (Followed report) a b =
    FollowStep given dir save (Ok (Whole report)) (files_of a.store) (files_of b.store)
    × (b.lost ≡ a.lost) × (b.published ≡ a.published)
FollowTo given dir save (FollowedPart report count) a b =
    ((applied : ReportValue) × FollowStep given dir save (Ok (Part report applied count))
    (files_of a.store) (files_of b.store)) × (b.lost ≡ a.lost) × (b.published ≡ a.published)
FollowTo given dir save (FollowedBefore report fault) a b =
    FollowStep given dir save (Ok (Before report fault)) (files_of a.store) (files_of b.store)
    × (b.lost ≡ a.lost) × (b.published ≡ a.published)
FollowTo given dir save (Refused fault) a b =
    FollowStep given dir save (Err fault) (files_of a.store) (files_of b.store)
    × (b.lost ≡ a.lost) × (b.published ≡ a.published)
FollowTo given dir save r a b = ⊥

-- a run under another filter
pub record IsOtherTo (given other : FilterValue) (dir save : List ℕ)
    (answer : Option (Result Progress RunFault)) (a b : World) : Type 0 where
  pub answered : OtherAnswer given other dir save answer (files_of a.store) (files_of b.store)
  pub lost : b.lost ≡ a.lost
  pub published : b.published ≡ a.published

abbrev pub OtherTo :
    FilterValue → FilterValue → List ℕ → List ℕ → Reply → World → World → Type 0
OtherTo given other dir save (Followed report) a b =
    IsOtherTo given other dir save (Some (Ok (Whole report))) a b
OtherTo given other dir save (FollowedPart report count) a b =
    (applied : ReportValue)
    × IsOtherTo given other dir save (Some (Ok (Part report applied count))) a b
OtherTo given other dir save (FollowedBefore report fault) a b =
    IsOtherTo given other dir save (Some (Ok (Before report fault))) a b
OtherTo given other dir save (Refused fault) a b =
    IsOtherTo given other dir save (Some (Err fault)) a b
OtherTo given other dir save NotThere a b = IsOtherTo given other dir save None a b
OtherTo given other dir save r a b = ⊥

-- the file of that name is spoiled, and these are the bytes that it held; nothing changes if it
-- isn't there
abbrev pub IsSpoiledNow : List ℕ → Option Spoiled → Files → Files → Type 0
IsSpoiledNow name None old new = (old name ≡ None) × (new ≡ old)
IsSpoiledNow name (Some it) old new =
    (string_bytes it.name ≡ name) × (old name ≡ Some it.bytes.items)
    × Puts old name (Some spoiled) new

-- a run of the word `follow` while the file of that name is spoiled: the files before it and after
-- it, and those that the run finds and leaves
pub record IsSpoiledRun (given : FilterValue) (dir save name : List ℕ)
    (w : Result Progress RunFault) (old new : Files) : Type 0 where
  pub bytes : List ℕ
  pub there : old name ≡ Some bytes
  pub during : Files
  pub put : Puts old name (Some spoiled) during
  pub after : Files
  pub answer : FollowAnswer given dir save w during after
  pub back : is_some (after name) ≡ true → Puts after name (Some bytes) new
  pub law : NoFaultBesideState

-- the same, or memory was refused before anything was done
abbrev pub SpoiledStep : FilterValue → List ℕ → List ℕ → List ℕ → Result Progress RunFault
    → Files → Files → Type 0
SpoiledStep given dir save name w old new =
    ((w ≡ Err WantOfMemory) × (new ≡ old)) ⊎ IsSpoiledRun given dir save name w old new

-- what the run answers; nothing if there is no such file
abbrev pub SpoiledAnswer : FilterValue → List ℕ → List ℕ → List ℕ
    → Option (Result Progress RunFault) → Files → Files → Type 0
SpoiledAnswer given dir save name None old new = (old name ≡ None) × (new ≡ old)
SpoiledAnswer given dir save name (Some w) old new = SpoiledStep given dir save name w old new

-- the reply to what a run of the word `follow` answers; none was made if it answers nothing
abbrev pub progress_reply : Option (Result Progress RunFault) → Reply
progress_reply None = NotThere
progress_reply (Some (Ok (Whole report))) = Followed report
progress_reply (Some (Ok (Part report applied count))) = FollowedPart report count
progress_reply (Some (Ok (Before report fault))) = FollowedBefore report fault
progress_reply (Some (Err fault)) = Refused fault

-- a run over a spoiled file of a published number
pub record IsSpoiledTo (given : FilterValue) (dir save : List ℕ) (n : ℕ) (s : Suffix)
    (w : Result Progress RunFault) (a b : World) : Type 0 where
  pub number : IsNumber true a.published n
  pub step :
      SpoiledStep given dir save (file_name_of dir n s) w (files_of a.store) (files_of b.store)
  pub lost : b.lost ≡ a.lost
  pub published : b.published ≡ a.published

abbrev pub SpoiledTo :
    FilterValue → List ℕ → List ℕ → ℕ → Suffix → Reply → World → World → Type 0
SpoiledTo given dir save n s (Followed report) a b =
    IsSpoiledTo given dir save n s (Ok (Whole report)) a b
SpoiledTo given dir save n s (FollowedPart report count) a b =
    (applied : ReportValue) × IsSpoiledTo given dir save n s (Ok (Part report applied count)) a b
SpoiledTo given dir save n s (FollowedBefore report fault) a b =
    IsSpoiledTo given dir save n s (Ok (Before report fault)) a b
SpoiledTo given dir save n s (Refused fault) a b = IsSpoiledTo given dir save n s (Err fault) a b
SpoiledTo given dir save n s NotThere a b =
    (IsNumber false a.published n
    ⊎ (IsNumber true a.published n × (files_of a.store (file_name_of dir n s) ≡ None)))
    × (files_of b.store ≡ files_of a.store) × (b.lost ≡ a.lost) × (b.published ≡ a.published)
SpoiledTo given dir save n s r a b = ⊥

-- the device refuses a killed run alone
abbrev pub BlamesIfKilled : Option ℕ → RunFault → Type 0
BlamesIfKilled calls fault = IsDeviceFault fault → IsKilled calls

-- what a reply says about the calls of a run over a spoiled file
abbrev pub HasSpoiledCalls : Option ℕ → Reply → Type 0
HasSpoiledCalls calls (Followed report) = HasCalls 4 calls
HasSpoiledCalls calls (FollowedPart report count) = HasCalls 4 calls
HasSpoiledCalls calls (FollowedBefore report fault) = HasCalls 4 calls
HasSpoiledCalls calls (Refused fault) = BlamesIfKilled calls fault
HasSpoiledCalls calls r = Unit {0}

-- the reply to an export, from what its run answered
abbrev pub exported_reply : Result ReportValue RunFault → Reply
exported_reply (Ok report) = Exported report
exported_reply (Err fault) = Refused fault

-- all is as it was but the number that was exported last
pub record KeepsOthers (a b : World) : Type 0 where
  pub store : b.store ≡ a.store
  pub lost : b.lost ≡ a.lost
  pub published : b.published ≡ a.published

abbrev pub ExportTo : List ℕ → List ℕ → Reply → World → World → Type 0
ExportTo save extract (Exported report) a b =
    ExportStep save extract (Ok report) (files_of a.store) (files_of b.store)
    × (b.lost ≡ a.lost) × (b.published ≡ a.published)
    × IsNumberKept b.exported save (files_of a.store)
ExportTo save extract (Refused fault) a b =
    ExportStep save extract (Err fault) (files_of a.store) (files_of b.store)
    × (b.lost ≡ a.lost) × (b.published ≡ a.published)
ExportTo save extract r a b = ⊥

-- the reply to a beginning, from what its run answered
abbrev pub begun_reply : Result ReportValue RunFault → Reply
begun_reply (Ok report) = Begun report
begun_reply (Err (OtherJournal n)) = CutShort n
begun_reply (Err fault) = Refused fault

-- the fault isn't that of a journal of another save
abbrev pub IsNoOther : RunFault → Type 0
IsNoOther (OtherJournal n) = ⊥
IsNoOther fault = Unit {0}

abbrev pub BeginTo :
    FilterValue → List ℕ → List ℕ → List ℕ → Reply → World → World → Type 0
BeginTo given dir save extract (Begun report) a b =
    BeginStep given dir a.exported extract save (Ok report) (files_of a.store) (files_of b.store)
    × (b.lost ≡ a.lost) × (b.published ≡ a.published)
BeginTo given dir save extract (CutShort n) a b =
    BeginStep given dir a.exported extract save (Err (OtherJournal n)) (files_of a.store)
    (files_of b.store) × (b.lost ≡ a.lost) × (b.published ≡ a.published)
BeginTo given dir save extract (Refused fault) a b =
    BeginStep given dir a.exported extract save (Err fault) (files_of a.store) (files_of b.store)
    × (b.lost ≡ a.lost) × (b.published ≡ a.published) × IsNoOther fault
BeginTo given dir save extract r a b = ⊥

-- the number that was exported last stays, unless an export is done
abbrev pub KeepsExported : Reply → World → World → Type 0
KeepsExported (Exported report) a b = Unit {0}
KeepsExported r a b = b.exported ≡ a.exported

-- the most calls of an export of what the save and its journal keep
abbrev pub most_to_export : List ℕ → Files → ℕ
most_to_export save files =
    export_kept_calls (bytes_in (files save)) (bytes_in (files (journal_name_of save)))

-- why the device refuses an export with these calls: a whole one never
abbrev pub LacksExportCalls : List ℕ → Option ℕ → Files → RunFault → Type 0
LacksExportCalls save calls files fault = LacksCalls (most_to_export save files) calls fault

-- what a reply says about the calls of an export
abbrev pub HasExportCalls : List ℕ → Option ℕ → Reply → Files → Type 0
HasExportCalls save calls (Exported report) files = HasCalls 4 calls
HasExportCalls save calls (Refused fault) files =
    LacksExportCalls save calls files fault
HasExportCalls save calls r files = Unit {0}

-- why the device refuses a beginning with these calls: a whole one never, and for the state only if
-- there were none
pub record LacksCallsToBegin (extract : List ℕ) (calls : Option ℕ) (files : Files)
    (fault : RunFault) : Type 0 where
  pub all : LacksCalls (begin_kept_calls (bytes_in (files extract))) calls fault
  pub first : fault ≡ ReadFault names.State → HasFewer 1 calls

-- what a reply says about the calls of a beginning
abbrev pub HasBeginCalls : List ℕ → Option ℕ → Reply → Files → Type 0
HasBeginCalls extract calls (Begun report) files = HasCalls 3 calls
HasBeginCalls extract calls (Refused fault) files = LacksCallsToBegin extract calls files fault
HasBeginCalls extract calls r files = Unit {0}

-- what a reply says about the calls of a publication
abbrev pub HasPublishCalls : Option ℕ → Reply → Type 0
HasPublishCalls calls (Published report) = HasCalls 6 calls
HasPublishCalls calls r = Unit {0}

-- fewer calls than a run of the follower may make over the folder of what was published, from a
-- save and a journal in step; a whole run never has fewer, whatever the files are
abbrev pub HasFewToFollow : FilterValue → List ℕ → List ℕ → Option ℕ → Files → Type 0
HasFewToFollow given dir save None files = ⊥
HasFewToFollow given dir save (Some calls) files =
    (published : List PublishedValue) (base number : ℕ) → IsFolderOf published files dir
    → IsKeptOf published given base number save files
    → calls < kept_calls published number (files save)

-- why the device refuses a run of the follower with these calls
abbrev pub LacksFollowCalls :
    FilterValue → List ℕ → List ℕ → Option ℕ → Files → RunFault → Type 0
LacksFollowCalls given dir save calls files fault =
    IsDeviceFault fault → HasFewToFollow given dir save calls files

-- what a reply says about the calls of a run of the follower
abbrev pub HasFollowCalls : FilterValue → List ℕ → List ℕ → Option ℕ → Reply → Files → Type 0
HasFollowCalls given dir save calls (Followed report) files = HasCalls 4 calls
HasFollowCalls given dir save calls (FollowedPart report count) files = HasCalls 4 calls
HasFollowCalls given dir save calls (Refused fault) files =
    LacksFollowCalls given dir save calls files fault
HasFollowCalls given dir save calls r files = Unit {0}

-- a file of a published number is moved from one store to the other
abbrev pub MoveTo : List ℕ → ℕ → ℕ → Suffix → Bool → Files → Files → Files → Files → Type 0
MoveTo dir count n s is_moved from to from_after to_after =
    IsNumber true count n
    × Moves is_moved (file_name_of dir n s) from to from_after to_after

abbrev pub LoseTo : List ℕ → ℕ → Suffix → Reply → World → World → Type 0
LoseTo dir n s Lost a b =
    MoveTo dir a.published n s true (files_of a.store) (files_of a.lost) (files_of b.store)
    (files_of b.lost) × (b.published ≡ a.published)
LoseTo dir n s NotThere a b =
    (IsNumber false a.published n
    ⊎ MoveTo dir a.published n s false (files_of a.store) (files_of a.lost) (files_of b.store)
    (files_of b.lost))
    × (files_of b.store ≡ files_of a.store) × (files_of b.lost ≡ files_of a.lost)
    × (b.published ≡ a.published)
LoseTo dir n s (Refused fault) a b =
    (fault ≡ WantOfMemory)
    × (files_of b.store ≡ files_of a.store) × (files_of b.lost ≡ files_of a.lost)
    × (b.published ≡ a.published)
LoseTo dir n s r a b = ⊥

abbrev pub PutBackTo : List ℕ → ℕ → Suffix → Reply → World → World → Type 0
PutBackTo dir n s IsBack a b =
    MoveTo dir a.published n s true (files_of a.lost) (files_of a.store) (files_of b.lost)
    (files_of b.store) × (b.published ≡ a.published)
PutBackTo dir n s NotThere a b =
    (IsNumber false a.published n
    ⊎ MoveTo dir a.published n s false (files_of a.lost) (files_of a.store) (files_of b.lost)
    (files_of b.store))
    × (files_of b.store ≡ files_of a.store) × (files_of b.lost ≡ files_of a.lost)
    × (b.published ≡ a.published)
PutBackTo dir n s (Refused fault) a b =
    (fault ≡ WantOfMemory)
    × (files_of b.store ≡ files_of a.store) × (files_of b.lost ≡ files_of a.lost)
    × (b.published ≡ a.published)
PutBackTo dir n s r a b = ⊥

-- a run of the follower that is refused leaves every file as it was, whatever the files are
abbrev pub LeavesFiles : Operation → Reply → Files → Files → Type 0
LeavesFiles (Follow calls) (Refused fault) old new = new ≡ old
LeavesFiles (FollowOther other) (Refused fault) old new = new ≡ old
LeavesFiles (FollowSpoiled n s calls) (Refused fault) old new = new ≡ old
LeavesFiles e r old new = Unit {0}

-- an operation under the filter, and its reply
abbrev pub Step : FilterValue → List ℕ → List ℕ → List ℕ → List ℕ → Operation → Reply → World
    → World → Type 0
Step given dir save changes extract (Publish batch time calls) r a b =
    PublishTo calls dir changes batch time r a b × HasPublishCalls calls r
Step given dir save changes extract (PublishAs batch time n calls) r a b =
    PublishAsTo calls dir changes batch time n r a b
Step given dir save changes extract (Follow calls) r a b =
    FollowTo given dir save r a b × HasFollowCalls given dir save calls r (files_of a.store)
Step given dir save changes extract (FollowOther other) r a b =
    OtherTo given other dir save r a b
Step given dir save changes extract (FollowSpoiled n s calls) r a b =
    SpoiledTo given dir save n s r a b × HasSpoiledCalls calls r
Step given dir save changes extract (Export calls) r a b =
    ExportTo save extract r a b × HasExportCalls save calls r (files_of a.store)
Step given dir save changes extract (Begin calls) r a b =
    BeginTo given dir save extract r a b
    × HasBeginCalls extract calls r (files_of a.store)
Step given dir save changes extract (Lose n s) r a b = LoseTo dir n s r a b
Step given dir save changes extract (PutBack n s) r a b = PutBackTo dir n s r a b

-- an operation, its reply and the worlds before and after it: the files and what was published are
-- those of the step, the exported number changes by an export alone, and a run of the follower that
-- is refused leaves every file
pub record IsStep (given : FilterValue) (dir save changes extract : List ℕ) (e : Operation)
    (r : Reply) (a b : World) : Type 0 where
  pub step : Step given dir save changes extract e r a b
  pub exported : KeepsExported r a b
  pub leaves : LeavesFiles e r (files_of a.store) (files_of b.store)

-- there is a world between the two
pub record Through (To From : World → Type 0) : Type 0 where
  pub world : World
  pub to : To world
  pub from : From world

-- the operations lead from one world to the other, each by its step
abbrev pub LeadsTo : FilterValue → List ℕ → List ℕ → List ℕ → List ℕ → List Operation → List Reply
    → World → World → Type 0
LeadsTo given dir save changes extract [] [] a z = z ≡ a
LeadsTo given dir save changes extract (e ∷ es) [] a z = ⊥
LeadsTo given dir save changes extract [] (r ∷ rs) a z = ⊥
LeadsTo given dir save changes extract (e ∷ es) (r ∷ rs) a z =
    Through (IsStep given dir save changes extract e r a)
    (λ b. LeadsTo given dir save changes extract es rs b z)

-- a world over the files in which nothing was lost, published or exported
pub record IsFirst (start : Files) (a : World) : Type 0 where
  pub files_are : files_of a.store ≡ start
  pub lost : files_of a.lost ≡ (λ name. None)
  pub published : a.published ≡ 0
  pub exported : a.exported ≡ 0

-- the operations lead from these files to that world
pub record LeadsFrom (given : FilterValue) (operations : List Operation) (replies : List Reply)
    (dir save changes extract : List ℕ) (start : Files) (last : World) : Type 0 where
  pub first : World
  pub is_first : IsFirst start first
  pub leads : LeadsTo given dir save changes extract operations replies first last

-- the operations lead from the first files to the second, whatever the first are and whatever the
-- names: each operation goes on from exactly the files that the one before it left
pub record Leads (given : FilterValue) (operations : List Operation) (replies : List Reply)
    (dir save changes extract : List ℕ) (start files : Files) : Type 0 where
  pub last : World
  pub files_are : files_of last.store ≡ files
  pub from : LeadsFrom given operations replies dir save changes extract start last
