-- Publishing as a number that is asked for: as the next one, or once more as one that is there with
-- the same changes at the same time. `known` says that it is known what the files hold.
use Rattle.std.specs.Prelude.{◌≡◌, ℕ, zero, suc, ◌+◌, ◌<◌, ◌≤◌, ◌⊎◌, ◌==◌, List, Option, Some, None}
use Rattle.osm_model.specs.Limits.{max_file}
use Rattle.osm_model.specs.Time.{TimeText}
use Rattle.osm_publisher.specs.Published.{PublishedValue, sequence_at, written_of}
use Rattle.osm_publisher.specs.Publisher.{IsSmall, IsTooLarge}
use Rattle.osm_opl.specs.File.{SpellsOpl}
use Rattle.osm_reading.specs.Sequence.{SpellsSequence}
use Rattle.osm_state.specs.declared.paths.Suffix.{Suffix}
use Rattle.osm_state.specs.declared.paths.Suffix.TheVariants.{O5c, Opl, State}
use Rattle.osm_store.specs.Files.{Files, IsOver, Spends, SpendsAtMost}
use Rattle.osm_store.specs.Frames.{IsKnown, StoreState}
use Rattle.osm_runs.specs.Following.{AreFilesOf, is_lost}
use Rattle.osm_publishing.specs.Publication.{CutsOff, GoesOnFrom, HasTime, HasTop, IsAdded}
use Rattle.osm_publishing.specs.Publication.{IsBadChanges, IsBeforeLast, Writes}
use Rattle.osm_runs.specs.Folder.{IsBadState, IsFolderOf, IsThere, max_state}
use Rattle.osm_publishing.specs.Publication.{file_after, writes_of}
use Rattle.osm_runs.specs.Reports.{ReportValue, publish_report_of}
use Rattle.osm_runs.specs.declared.fault.FileName.{FileName}
use Rattle.osm_runs.specs.declared.fault.FileName.TheVariants.{Top, Sequence, Changes}
use Rattle.osm_runs.specs.declared.fault.RunFault.{RunFault}
use Rattle.osm_runs.specs.declared.fault.RunFault.TheVariants.{WantOfMemory, ReadFault}
use Rattle.osm_runs.specs.declared.fault.RunFault.TheVariants.{WriteFault}
use Rattle.osm_runs.specs.declared.fault.RunFault.TheVariants.{TooLarge, Absent, BadState}
use Rattle.osm_runs.specs.declared.fault.RunFault.TheVariants.{BadChange, TimeBack, BadNow}
use Rattle.osm_runs.specs.declared.fault.RunFault.TheVariants.{BadSequence, Differs, TopAt}
use Rattle.std.specs.Prelude.{false, length, take, if◌then◌else◌, Result, IfErr, IfOk, OnErr}
use Rattle.osm_runs.specs.Names.{top_name_of}

-- the words and the files were read: `p` is the sequence that they ask for, and the top state has
-- that number and time, or is absent
pub record IsAsked (dir changes now sequence : List ℕ) (files : Files) (top time : ℕ)
    (p : PublishedValue) : Type 0 where
  pub goes_on : GoesOnFrom (files (top_name_of dir)) top time
  pub bytes : List ℕ
  pub there : files changes ≡ Some bytes
  pub small : length bytes ≤ max_file
  pub spelled : SpellsOpl bytes p.changes
  pub now_is : TimeText now p.time
  pub number_is : SpellsSequence sequence p.number

-- the sequence is published in the folder whose top state has that number and time
pub record IsPublishedIn (files : Files) (dir : List ℕ) (top time : ℕ) (p : PublishedValue) :
    Type 0 where
  pub above : 0 < p.number
  pub within : p.number ≤ top
  pub newest : p.number ≡ top → p.time ≡ time
  pub files_are : AreFilesOf files dir p

-- the sequence's files are to be written: it is the next one, at a time that isn't before that of
-- the top state, or it is the newest one
abbrev pub IsToWrite : Files → List ℕ → ℕ → ℕ → PublishedValue → Type 0
IsToWrite files dir top time p =
    ((p.number ≡ top + 1) × (time ≤ p.time))
    ⊎ ((p.number ≡ top) × IsPublishedIn files dir top time p)

-- the sequence's files are written, in their order, or nothing is, since it isn't the newest one
abbrev pub PutsSequence : Files → Files → List ℕ → ℕ → ℕ → PublishedValue → Type 0
PutsSequence old new dir top time p =
    (IsToWrite old dir top time p × IsSmall p.changes
    × Writes (writes_of dir (written_of p)) old new)
    ⊎ ((p.number < top) × IsPublishedIn old dir top time p × (new ≡ old))

-- the sequence that the words ask for is published
pub record IsPublishedAs (dir changes now sequence : List ℕ) (old new : Files)
    (report : ReportValue) : Type 0 where
  pub top : ℕ
  pub time : ℕ
  pub asked_for : PublishedValue
  pub asked : IsAsked dir changes now sequence old top time asked_for
  pub put : PutsSequence old new dir top time asked_for
  pub report_is : report ≡ publish_report_of asked_for.number

-- only some of the writes were made, and never the top state's
pub record IsNumberedCutOff (dir changes now sequence : List ℕ) (old new : Files)
    (fault : RunFault) : Type 0 where
  pub top : ℕ
  pub time : ℕ
  pub asked_for : PublishedValue
  pub asked : IsAsked dir changes now sequence old top time asked_for
  pub to_write : IsToWrite old dir top time asked_for
  pub fits : IsSmall asked_for.changes
  pub count : ℕ
  pub few : count < 4
  pub cut : CutsOff asked_for.number count fault
  pub written : Writes (take count (writes_of dir (written_of asked_for))) old new

-- the words are a time and a number
pub record AreWords (now sequence : List ℕ) : Type 0 where
  pub has_time : HasTime now
  pub number : ℕ
  pub number_is : SpellsSequence sequence number

-- everything that the words name was read, and this holds of the top state's number and time and of
-- the sequence that is asked for
pub record IsAskedWith (dir changes now sequence : List ℕ) (files : Files)
    (holds : ℕ → ℕ → PublishedValue → Type 0) : Type 0 where
  pub top : ℕ
  pub time : ℕ
  pub asked_for : PublishedValue
  pub asked : IsAsked dir changes now sequence files top time asked_for
  pub is_so : holds top time asked_for

-- the number is that of a published sequence
abbrev pub IsOld : ℕ → ℕ → PublishedValue → Type 0
IsOld top time p = (0 < p.number) × (p.number ≤ top)

-- a file of the sequence's number is read
pub record IsFileOfNumber (known : Type 0) (dir changes now sequence : List ℕ) (files : Files)
    (file : FileName) : Type 0 where
  pub number : ℕ
  pub suffix : Suffix
  pub file_is : file ≡ Sequence number suffix
  pub number_is : SpellsSequence sequence number
  pub old : known → IsAskedWith dir changes now sequence files IsOld

-- the next number is asked for, at a time before that of the top state
abbrev pub IsEarly : ℕ → ℕ → PublishedValue → Type 0
IsEarly top time p = (p.number ≡ top + 1) × (p.time < time)

-- the sequence is to be written, but a file would be too large
abbrev pub IsBigToWrite : Files → List ℕ → ℕ → ℕ → PublishedValue → Type 0
IsBigToWrite files dir top time p = IsToWrite files dir top time p × IsTooLarge p.changes

-- the number is neither published nor the next one
abbrev pub IsFar : ℕ → ℕ → ℕ → PublishedValue → Type 0
IsFar number top time p = (number ≡ top) × ((p.number ≡ 0) ⊎ (top + 1 < p.number))

-- the number is published, but with other changes or at another time, or files of it are missing
abbrev pub IsOther : Files → List ℕ → ℕ → ℕ → PublishedValue → Type 0
IsOther files dir top time p =
    (0 < p.number) × (p.number ≤ top) × (IsPublishedIn files dir top time p → ⊥)

-- why nothing is written: of the words, the top state, the file of changes, the place of the number
-- and the close, the first that fails
abbrev pub NotNumbered :
    Type 0 → List ℕ → List ℕ → List ℕ → List ℕ → Files → RunFault → Type 0
NotNumbered known dir changes now sequence files BadNow = (time : ℕ) → TimeText now time → ⊥
NotNumbered known dir changes now sequence files BadSequence =
    HasTime now × ((number : ℕ) → SpellsSequence sequence number → ⊥)
NotNumbered known dir changes now sequence files (ReadFault file) =
    AreWords now sequence
    × ((file ≡ Top) ⊎ ((file ≡ Changes) × (known → HasTop dir files))
    ⊎ IsFileOfNumber known dir changes now sequence files file)
NotNumbered known dir changes now sequence files (BadState file cause) =
    AreWords now sequence × (file ≡ Top) × (known → IsBadState (files (top_name_of dir)) cause)
NotNumbered known dir changes now sequence files (Absent file) =
    AreWords now sequence
    × (file ≡ Changes) × (known → HasTop dir files × (files changes ≡ None))
NotNumbered known dir changes now sequence files (TooLarge file) =
    AreWords now sequence
    × (((file ≡ Top) × (known → IsOver max_state (files (top_name_of dir))))
    ⊎ ((file ≡ Changes) × (known → HasTop dir files × IsOver max_file (files changes)))
    ⊎ ((file ≡ Changes)
    × (known → IsAskedWith dir changes now sequence files (IsBigToWrite files dir))))
NotNumbered known dir changes now sequence files (BadChange file place why) =
    AreWords now sequence × (file ≡ Changes)
    × (known → HasTop dir files × IsBadChanges (files changes) place)
NotNumbered known dir changes now sequence files TimeBack =
    AreWords now sequence × (known → IsAskedWith dir changes now sequence files IsEarly)
NotNumbered known dir changes now sequence files (TopAt number) =
    AreWords now sequence × (known → IsAskedWith dir changes now sequence files (IsFar number))
NotNumbered known dir changes now sequence files (Differs number) =
    HasTime now × SpellsSequence sequence number
    × (known → IsAskedWith dir changes now sequence files (IsOther files dir))
NotNumbered known dir changes now sequence files WantOfMemory = AreWords now sequence
NotNumbered known dir changes now sequence files fault = ⊥

-- a publication by number stops before its first write, and all files are as they were, or it is
-- cut off
abbrev pub NumberedStops :
    Type 0 → List ℕ → List ℕ → List ℕ → List ℕ → Files → Files → RunFault → Type 0
NumberedStops known dir changes now sequence old new fault =
    (NotNumbered known dir changes now sequence old fault × (new ≡ old))
    ⊎ (((number count : ℕ) × CutsOff number count fault)
    × (known → IsNumberedCutOff dir changes now sequence old new fault))

-- the number of the published sequence was asked for, with its changes at its time: only the newest
-- one is written again
pub record IsRepeated (published : List PublishedValue) (dir changes now : List ℕ) (number : ℕ)
    (old new : Files) : Type 0 where
  pub above : 0 < number
  pub within : number ≤ length published
  pub changes_are : IsThere (old changes)
      (λ bytes. SpellsOpl bytes (sequence_at published number).changes)
  pub time_is : TimeText now (sequence_at published number).time
  pub folder : IsFolderOf published new dir
  pub written : number ≡ length published
      → Writes (writes_of dir (written_of (sequence_at published number))) old new
  pub same : number < length published → new ≡ old

-- over the folder of published sequences: it has one more, or has that one already
pub record IsAddedAs (published : List PublishedValue) (dir changes now sequence : List ℕ)
    (old new : Files) (report : ReportValue) : Type 0 where
  pub number : ℕ
  pub number_is : SpellsSequence sequence number
  pub done : ((number ≡ length published + 1) × IsAdded published dir changes now old new report)
      ⊎ IsRepeated published dir changes now number old new
  pub report_is : report ≡ publish_report_of number

-- the file of changes, the time and the folder's files are those of the published sequence
pub record IsRepeatOf (files : Files) (dir changes now : List ℕ) (p : PublishedValue) : Type 0 where
  pub changes_are : IsThere (files changes) (λ bytes. SpellsOpl bytes p.changes)
  pub time_is : TimeText now p.time
  pub found : is_lost files dir p.number ≡ false

-- why a publication by number into the folder of published sequences is refused: never for a fault
-- in its state
abbrev pub NumberedStopsOver : List PublishedValue → List ℕ → List ℕ → List ℕ → List ℕ → Files
    → RunFault → Type 0
NumberedStopsOver published dir changes now sequence files BadNow =
    (time : ℕ) → TimeText now time → ⊥
NumberedStopsOver published dir changes now sequence files BadSequence =
    (number : ℕ) → SpellsSequence sequence number → ⊥
NumberedStopsOver published dir changes now sequence files WantOfMemory = Unit {0}
NumberedStopsOver published dir changes now sequence files (ReadFault file) = Unit {0}
NumberedStopsOver published dir changes now sequence files (WriteFault file) = Unit {0}
NumberedStopsOver published dir changes now sequence files (Absent file) = file ≡ Changes
NumberedStopsOver published dir changes now sequence files (TooLarge file) = file ≡ Changes
NumberedStopsOver published dir changes now sequence files (BadChange file place why) =
    file ≡ Changes
NumberedStopsOver published dir changes now sequence files TimeBack =
    SpellsSequence sequence (length published + 1) × IsBeforeLast published now
NumberedStopsOver published dir changes now sequence files (TopAt top) =
    (top ≡ length published)
    × ((number : ℕ) × SpellsSequence sequence number × ((number ≡ 0) ⊎ (top + 1 < number)))
NumberedStopsOver published dir changes now sequence files (Differs number) =
    SpellsSequence sequence number × (0 < number) × (number ≤ length published)
    × (IsRepeatOf files dir changes now (sequence_at published number) → ⊥)
NumberedStopsOver published dir changes now sequence files fault = ⊥

-- what a publication by number into that folder does: the sequence is added or is there already, or
-- it is refused, and the folder is still that of what was published before
pub record PublishesAsOver (published : List PublishedValue) (dir changes now sequence : List ℕ)
    (old new : Files) (result : Result ReportValue RunFault) : Type 0 where
  pub added : IfOk result (IsAddedAs published dir changes now sequence old new)
  pub refuses : IfErr result (NumberedStopsOver published dir changes now sequence old)
  pub keeps : OnErr result (IsFolderOf published new dir)

-- how many calls of the store a publication by number makes if it is done
abbrev pub numbered_calls : ℕ → ℕ → ℕ
numbered_calls number top = if number == top + 1 then 6 else (if number == top then 9 else 5)

-- exactly that many calls were made
abbrev pub SpendsExactly : ℕ → Option ℕ → Option ℕ → Type 0
SpendsExactly calls old new = Spends calls old new × SpendsAtMost calls old new

-- if it is known what the files hold, as many calls were made as that number takes
abbrev pub SpendsNumbered : StoreState → StoreState → List ℕ → List ℕ → Type 0
SpendsNumbered old new dir sequence =
    IsKnown old → (number top time : ℕ) → SpellsSequence sequence number
    → GoesOnFrom (old.files (top_name_of dir)) top time
    → SpendsExactly (numbered_calls number top) old.left new.left

-- how many calls come before the first write
abbrev pub calls_before : ℕ → ℕ → ℕ
calls_before number top = if number == top + 1 then 2 else 5

-- the file of the next read after that many
abbrev pub file_read_after : ℕ → ℕ → FileName
file_read_after number zero = Top
file_read_after number (suc zero) = Changes
file_read_after number (suc (suc zero)) = Sequence number State
file_read_after number (suc (suc (suc zero))) = Sequence number O5c
file_read_after number count = Sequence number Opl

-- the device failed since no call was left after so many, at the file of the next one
abbrev pub NumberedOut : List ℕ → List ℕ → Files → Option ℕ → RunFault → Type 0
NumberedOut dir sequence files left (ReadFault file) =
    (number count : ℕ) × SpellsSequence sequence number × (count < 5) × (left ≡ Some count)
    × (file ≡ file_read_after number count)
NumberedOut dir sequence files left (WriteFault file) =
    (number top time count : ℕ) × SpellsSequence sequence number
    × GoesOnFrom (files (top_name_of dir)) top time × (count < 4)
    × (left ≡ Some (calls_before number top + count)) × (file ≡ file_after number count)
NumberedOut dir sequence files left fault = Unit {0}
