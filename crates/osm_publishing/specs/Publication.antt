-- Publishing one more sequence in a folder. `known` says that it is known what the files hold, and
-- a word that ends in `In` takes the state of a store in place of `known` and the files.
use Rattle.std.specs.Prelude.{◌≡◌, ℕ, zero, suc, ◌+◌, ◌<◌, ◌≤◌, ◌⊎◌, List, [], ◌∷◌, ◌++◌}
use Rattle.std.specs.Prelude.{length, take, Option, Some, None, Result, IfErr, IfOk, OnErr}
use Rattle.osm_model.specs.Limits.{max_file, max_sequence}
use Rattle.osm_model.specs.Time.{TimeText}
use Rattle.osm_publisher.specs.Published.{PublishedTexts, PublishedValue, sequence_at}
use Rattle.osm_publisher.specs.Published.{written_of}
use Rattle.osm_publisher.specs.Publisher.{CanClose, IsSmall, IsTooLarge, PublisherValue, closing}
use Rattle.osm_opl.specs.File.{SpellsOpl}
use Rattle.osm_state.specs.declared.paths.Suffix.TheVariants.{O5c, Opl, State}
use Rattle.osm_store.specs.Files.{Files, IsOver, Puts}
use Rattle.osm_store.specs.Frames.{IsKnown, StoreState}
use Rattle.osm_runs.specs.Folder.{IsBadState, IsFolderOf, IsStateFile, IsThere, max_state}
use Rattle.osm_runs.specs.Forms.{IsFaulty}
use Rattle.osm_runs.specs.Names.{file_name_of, top_name_of}
use Rattle.osm_runs.specs.Reports.{ReportValue, publish_report_of}
use Rattle.osm_runs.specs.declared.fault.FileName.{FileName}
use Rattle.osm_runs.specs.declared.fault.FileName.TheVariants.{Top, Sequence, Changes}
use Rattle.osm_runs.specs.declared.fault.RunFault.{RunFault}
use Rattle.osm_runs.specs.declared.fault.RunFault.TheVariants.{WantOfMemory, ReadFault}
use Rattle.osm_runs.specs.declared.fault.RunFault.TheVariants.{WriteFault}
use Rattle.osm_runs.specs.declared.fault.RunFault.TheVariants.{TooLarge, Absent, BadState}
use Rattle.osm_runs.specs.declared.fault.RunFault.TheVariants.{BadChange, TimeBack, SequenceFull}
use Rattle.osm_runs.specs.declared.fault.RunFault.TheVariants.{BadNow}
use Rattle.osm_runs.specs.declared.form.Form.TheVariants as forms

-- the number and the time from which a publisher goes on: those of the top state; if there is none,
-- 0 and the least time
abbrev pub GoesOnFrom : Option (List ℕ) → ℕ → ℕ → Type 0
GoesOnFrom None number time = (number ≡ 0) × (time ≡ 1)
GoesOnFrom (Some bytes) number time = IsStateFile number time bytes

-- the words and the files of a publication were read: the publisher goes on from the top state, its
-- edits are those of the file of changes, and it is to close at that time
pub record IsRead (dir changes now : List ℕ) (files : Files) (a : PublisherValue) (time : ℕ) :
    Type 0 where
  pub goes_on : GoesOnFrom (files (top_name_of dir)) a.number a.time
  pub bytes : List ℕ
  pub there : files changes ≡ Some bytes
  pub small : length bytes ≤ max_file
  pub spelled : SpellsOpl bytes a.pending
  pub now_is : TimeText now time

-- the publisher can close at that time
pub record IsReady (dir changes now : List ℕ) (files : Files) (a : PublisherValue) (time : ℕ) :
    Type 0 where
  pub read : IsRead dir changes now files a time
  pub can_close : CanClose a time
  pub fits : IsSmall a.pending

-- the files of a sequence in the order in which they are written: the newest state is last
abbrev pub writes_of : List ℕ → PublishedTexts → List (List ℕ × List ℕ)
writes_of dir p =
    (file_name_of dir p.number O5c, p.o5c) ∷ (file_name_of dir p.number Opl, p.opl)
    ∷ (file_name_of dir p.number State, p.state) ∷ (top_name_of dir, p.state) ∷ []

-- the file of the next write after that many
abbrev pub file_after : ℕ → ℕ → FileName
file_after number zero = Sequence number O5c
file_after number (suc zero) = Sequence number Opl
file_after number (suc (suc zero)) = Sequence number State
file_after number count = Top

-- the writes were made, in their order, and nothing else
abbrev pub Writes : List (List ℕ × List ℕ) → Files → Files → Type 0
Writes [] old new = new ≡ old
Writes (w ∷ ws) old new =
    (between : Files) × Puts old w.0 (Some w.1) between × Writes ws between new

-- one more sequence: the next number's files were written, and the newest state after them
pub record IsPublished (dir changes now : List ℕ) (old new : Files)
    (report : ReportValue) : Type 0 where
  pub publisher : PublisherValue
  pub time : ℕ
  pub ready : IsReady dir changes now old publisher time
  pub written : Writes (writes_of dir (written_of (closing publisher time))) old new
  pub report_is : report ≡ publish_report_of (publisher.number + 1)

-- the fault of the next write after that many
abbrev pub CutsOff : ℕ → ℕ → RunFault → Type 0
CutsOff number count WantOfMemory = Unit {0}
CutsOff number count (WriteFault file) = file ≡ file_after number count
CutsOff number count fault = ⊥

-- only some of the writes were made, and never the newest state's
pub record IsCutOff (dir changes now : List ℕ) (old new : Files) (fault : RunFault) : Type 0 where
  pub publisher : PublisherValue
  pub time : ℕ
  pub ready : IsReady dir changes now old publisher time
  pub count : ℕ
  pub few : count < 4
  pub cut : CutsOff (publisher.number + 1) count fault
  pub written : Writes (take count (writes_of dir (written_of (closing publisher time)))) old new

-- the file of changes spells no batch, and goes wrong at that line
pub record IsBadChanges (told : Option (List ℕ)) (place : ℕ) : Type 0 where
  pub bytes : List ℕ
  pub there : told ≡ Some bytes
  pub faulty : IsFaulty forms.Opl bytes place

-- the text is that of a time
abbrev pub HasTime : List ℕ → Type 0
HasTime now = (time : ℕ) × TimeText now time

-- a publisher can go on from the top state
abbrev pub HasTop : List ℕ → Files → Type 0
HasTop dir files = (number time : ℕ) × GoesOnFrom (files (top_name_of dir)) number time

-- everything was read, and this holds of the publisher and the time
pub record IsReadWith (dir changes now : List ℕ) (files : Files)
    (holds : PublisherValue → ℕ → Type 0) : Type 0 where
  pub publisher : PublisherValue
  pub time : ℕ
  pub read : IsRead dir changes now files publisher time
  pub is_so : holds publisher time

-- no number is left
abbrev pub IsFull : PublisherValue → ℕ → Type 0
IsFull a time = a.number ≡ max_sequence

-- a number is left, but the time is before that of the last sequence
abbrev pub IsBack : PublisherValue → ℕ → Type 0
IsBack a time = (a.number < max_sequence) × (time < a.time)

-- the publisher could close, but a file would be too large
abbrev pub IsBig : PublisherValue → ℕ → Type 0
IsBig a time = CanClose a time × IsTooLarge a.pending

-- why nothing is written: of the words, the top state, the file of changes and the close, the first
-- that fails
abbrev pub NotReady : Type 0 → List ℕ → List ℕ → List ℕ → Files → RunFault → Type 0
NotReady known dir changes now files BadNow = (time : ℕ) → TimeText now time → ⊥
NotReady known dir changes now files (ReadFault file) =
    HasTime now × ((file ≡ Top) ⊎ ((file ≡ Changes) × (known → HasTop dir files)))
NotReady known dir changes now files (BadState file cause) =
    HasTime now × (file ≡ Top) × (known → IsBadState (files (top_name_of dir)) cause)
NotReady known dir changes now files (Absent file) =
    HasTime now × (file ≡ Changes) × (known → HasTop dir files × (files changes ≡ None))
NotReady known dir changes now files (TooLarge file) =
    HasTime now
    × (((file ≡ Top) × (known → IsOver max_state (files (top_name_of dir))))
    ⊎ ((file ≡ Changes) × (known → HasTop dir files × IsOver max_file (files changes)))
    ⊎ ((file ≡ Changes) × (known → IsReadWith dir changes now files IsBig)))
NotReady known dir changes now files (BadChange file place why) =
    HasTime now × (file ≡ Changes)
    × (known → HasTop dir files × IsBadChanges (files changes) place)
NotReady known dir changes now files SequenceFull =
    HasTime now × (known → IsReadWith dir changes now files IsFull)
NotReady known dir changes now files TimeBack =
    HasTime now × (known → IsReadWith dir changes now files IsBack)
NotReady known dir changes now files WantOfMemory = HasTime now
NotReady known dir changes now files fault = ⊥

-- the same in a store
abbrev pub NotReadyIn : StoreState → List ℕ → List ℕ → List ℕ → RunFault → Type 0
NotReadyIn store dir changes now = NotReady (IsKnown store) dir changes now store.files

-- a publication stops before its first write, and all files are as they were, or it is cut off
abbrev pub PublishStops :
    Type 0 → List ℕ → List ℕ → List ℕ → Files → Files → RunFault → Type 0
PublishStops known dir changes now old new fault =
    (NotReady known dir changes now old fault × (new ≡ old))
    ⊎ (((number count : ℕ) × CutsOff number count fault)
    × (known → IsCutOff dir changes now old new fault))

-- the device failed since no call was left after so many, at the file of the next one
abbrev pub PublishOut : List ℕ → Files → Option ℕ → RunFault → Type 0
PublishOut dir files left (ReadFault file) =
    ((left ≡ Some 0) × (file ≡ Top)) ⊎ ((left ≡ Some 1) × (file ≡ Changes))
PublishOut dir files left (WriteFault file) =
    (top time count : ℕ) × GoesOnFrom (files (top_name_of dir)) top time × (count < 4)
    × (left ≡ Some (2 + count)) × (file ≡ file_after (top + 1) count)
PublishOut dir files left fault = Unit {0}

-- the folder has one more sequence: the batch that the file of changes spells, at the time of `now`
pub record IsAdded (published : List PublishedValue) (dir changes now : List ℕ) (old new : Files)
    (report : ReportValue) : Type 0 where
  pub added : PublishedValue
  pub folder : IsFolderOf (published ++ added ∷ []) new dir
  pub changes_are : IsThere (old changes) (λ bytes. SpellsOpl bytes added.changes)
  pub time_is : TimeText now added.time
  pub report_is : report ≡ publish_report_of (length published + 1)

-- the time is before that of the last sequence
pub record IsBeforeLast (published : List PublishedValue) (now : List ℕ) : Type 0 where
  pub time : ℕ
  pub now_is : TimeText now time
  pub some : 0 < length published
  pub before : time < (sequence_at published (length published)).time

-- why a publication into the folder of published sequences is refused: never for a fault in its
-- state
abbrev pub PublishStopsOver : List PublishedValue → List ℕ → RunFault → Type 0
PublishStopsOver published now BadNow = (time : ℕ) → TimeText now time → ⊥
PublishStopsOver published now WantOfMemory = Unit {0}
PublishStopsOver published now (ReadFault file) = Unit {0}
PublishStopsOver published now (WriteFault file) = Unit {0}
PublishStopsOver published now (Absent file) = file ≡ Changes
PublishStopsOver published now (TooLarge file) = file ≡ Changes
PublishStopsOver published now (BadChange file place why) = file ≡ Changes
PublishStopsOver published now SequenceFull = length published ≡ max_sequence
PublishStopsOver published now TimeBack = IsBeforeLast published now
PublishStopsOver published now fault = ⊥

-- what a publication into that folder does: it adds a sequence, or is refused, and the folder is
-- still that of what was published before
pub record PublishesOver (published : List PublishedValue) (dir changes now : List ℕ)
    (old new : Files) (result : Result ReportValue RunFault) : Type 0 where
  pub added : IfOk result (IsAdded published dir changes now old new)
  pub refuses : IfErr result (PublishStopsOver published now)
  pub keeps : OnErr result (IsFolderOf published new dir)
