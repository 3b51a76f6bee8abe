-- Which reply may follow a history. The rows of an operation exclude one another, except that
-- memory may be refused instead, that a run may be killed, and that of a lost number the state may
-- be read or not.
use Rattle.std.specs.Prelude.{◌≡◌, ◌≢◌, ℕ, ◌+◌, ◌-◌, ◌<◌, ◌≤◌, ◌⊎◌, length, List, [], ◌∷◌}
use Rattle.std.specs.Prelude.{true, false, Option, Some, None}
use Rattle.osm_model.specs.Change.{ChangeValue}
use Rattle.osm_model.specs.Content.{content_of}
use Rattle.osm_model.specs.Data.{IsData}
use Rattle.osm_model.specs.Filter.{FilterValue, kept}
use Rattle.osm_model.specs.Limits.{max_file, max_sequence}
use Rattle.osm_model.specs.declared.kind.Key.{Key}
use Rattle.osm_mirror.specs.Mirror.{object_at}
use Rattle.osm_state.specs.declared.paths.Suffix.{Suffix}
use Rattle.osm_state.specs.declared.paths.Suffix.TheVariants.{O5c, Opl, State}
use Rattle.osm_publisher.specs.Published.{PublishedValue, changes_up_to, sequence_at}
use Rattle.osm_publisher.specs.Publisher.{IsTooLarge}
use Rattle.osm_runs.specs.DataForms.{HasNoDataForm}
use Rattle.osm_runs.specs.DataForms.{HasDataForm}
use Rattle.osm_runs.specs.Following.{IsSaveOf, ranges}
use Rattle.osm_runs.specs.Keeping.{IsKeptOf}
use Rattle.osm_publishing.specs.Numbered.{calls_before, file_read_after, numbered_calls}
use Rattle.osm_publishing.specs.Publication.{file_after}
use Rattle.osm_runs.specs.Reports.{ReportValue, begin_report_of, convert_report_of}
use Rattle.osm_runs.specs.Reports.{follow_report_of, publish_report_of}
use Rattle.osm_runs.specs.declared.fault.FileName.TheVariants as files
use Rattle.osm_runs.specs.declared.fault.FileName.TheVariants.{Changes, Journal, Output}
use Rattle.osm_runs.specs.declared.fault.FileName.TheVariants.{Save, Top}
use Rattle.osm_runs.specs.declared.fault.FileName.{FileName}
use Rattle.osm_runs.specs.declared.fault.RunFault.{RunFault}
use Rattle.osm_runs.specs.declared.fault.RunFault.TheVariants.{WantOfMemory, ReadFault}
use Rattle.osm_runs.specs.declared.fault.RunFault.TheVariants.{WriteFault, TooLarge, Absent}
use Rattle.osm_runs.specs.declared.fault.RunFault.TheVariants.{TimeBack, SequenceFull, BadNow}
use Rattle.osm_runs.specs.declared.fault.RunFault.TheVariants.{BadSequence, Differs, TopAt}
use Rattle.osm_runs.specs.declared.fault.RunFault.TheVariants.{UnknownForm, OtherFilter}
use Rattle.osm_runs.specs.declared.fault.RunFault.TheVariants.{OlderState, OtherJournal}
use Rattle.osm_merge.specs.Calls.{bytes_in}
use Rattle.osm_merge.specs.Checking.{IsHugeFile}
use Rattle.osm_store.specs.Files.{Files, IsOver}
use Rattle.osm_kept.specs.Names.{journal_name_of}
use Rattle.osm_beginning.specs.Beginning.{IsLargeBase, most_after, newest_time}
use Rattle.osm_beginning.specs.Keeping.{begin_kept_calls}
use Rattle.osm_exporting.specs.Exporting.{IsExportOf}
use Rattle.osm_exporting.specs.Keeping.{export_kept_calls}
use Rattle.osm_round.specs.KeepingOver.{kept_calls}
use Rattle.osm_round.specs.Over.{HasMany}
use Rattle.osm_round.specs.Rounds.{max_round}
use Rattle.osm_operations.specs.History.{History, published_of, is_file_lost, number_of}
use Rattle.osm_operations.specs.History.{is_number_lost, count_after, lost_after, is_saved}
use Rattle.osm_operations.specs.History.{beginning_of, bytes_after, cut_of}
use Rattle.osm_operations.specs.Alone.{IsInStepAlone}
use Rattle.osm_operations.specs.Killing.{HasCalls}
use Rattle.osm_operations.specs.Spoiling.{IsSpoiledFault}
use Rattle.osm_operations.specs.declared.operation.Operation.{Operation}
use Rattle.osm_operations.specs.declared.operation.Operation.TheVariants.{Publish, PublishAs}
use Rattle.osm_operations.specs.declared.operation.Operation.TheVariants.{Follow, FollowOther}
use Rattle.osm_operations.specs.declared.operation.Operation.TheVariants.{FollowSpoiled}
use Rattle.osm_operations.specs.declared.operation.Operation.TheVariants.{Export, Begin}
use Rattle.osm_operations.specs.declared.operation.Operation.TheVariants.{Lose, PutBack}
use Rattle.osm_operations.specs.declared.operation.Reply.{Reply}
use Rattle.osm_operations.specs.declared.operation.Reply.TheVariants.{Published, Followed}
use Rattle.osm_operations.specs.declared.operation.Reply.TheVariants.{FollowedPart, FollowedBefore}
use Rattle.osm_operations.specs.declared.operation.Reply.TheVariants.{Exported, Begun}
use Rattle.osm_operations.specs.declared.operation.Reply.TheVariants.{CutShort, Refused, CutOff}
use Rattle.osm_operations.specs.declared.operation.Reply.TheVariants.{Lost, IsBack, NotThere}

-- the time is below that of the last sequence
abbrev pub IsBelowLast : List PublishedValue → ℕ → Type 0
IsBelowLast published time =
    (0 < length published) × (time < (sequence_at published (length published)).time)

-- why a publication that isn't killed isn't done: never for a file of the folder
abbrev pub PublicationStopsIn : List PublishedValue → List ChangeValue → ℕ → RunFault → Type 0
PublicationStopsIn published changes time WantOfMemory = Unit {0}
PublicationStopsIn published changes time BadNow = time ≡ 0
PublicationStopsIn published changes time (TooLarge file) = (file ≡ Changes) × IsTooLarge changes
PublicationStopsIn published changes time SequenceFull = length published ≡ max_sequence
PublicationStopsIn published changes time TimeBack = IsBelowLast published time
PublicationStopsIn published changes time fault = ⊥

-- why a publication that is killed after that many calls isn't done: for the file of the next call;
-- else only for what refuses a whole publication
abbrev pub KilledPublicationStopsIn :
    List PublishedValue → List ChangeValue → ℕ → ℕ → RunFault → Type 0
KilledPublicationStopsIn published changes time calls (ReadFault file) =
    ((calls ≡ 0) × (file ≡ Top)) ⊎ ((calls ≡ 1) × (file ≡ Changes))
KilledPublicationStopsIn published changes time calls (WriteFault file) =
    (count : ℕ) × (count < 4) × (calls ≡ 2 + count)
    × (file ≡ file_after (length published + 1) count)
KilledPublicationStopsIn published changes time calls fault =
    PublicationStopsIn published changes time fault

-- the changes and the time are those of the published sequence of that number, whose state is there
-- and its changes in one form at least
abbrev pub IsRepeat : History → List ChangeValue → ℕ → ℕ → Type 0
IsRepeat h changes time n =
    (0 < n) × (n ≤ length (published_of h))
    × (sequence_at (published_of h) n ≡ record { number = n; changes = changes; time = time })
    × (is_number_lost h n ≡ false)

-- why a publication by number that isn't killed isn't done: never for a fault in a file of the
-- folder
abbrev pub NumberedStopsIn : History → List ChangeValue → ℕ → ℕ → RunFault → Type 0
NumberedStopsIn h changes time n WantOfMemory = Unit {0}
NumberedStopsIn h changes time n BadNow = time ≡ 0
NumberedStopsIn h changes time n BadSequence = max_sequence < n
NumberedStopsIn h changes time n (TooLarge file) = (file ≡ Changes) × IsTooLarge changes
NumberedStopsIn h changes time n TimeBack =
    (n ≡ length (published_of h) + 1) × IsBelowLast (published_of h) time
NumberedStopsIn h changes time n (TopAt number) =
    (number ≡ length (published_of h)) × ((n ≡ 0) ⊎ (length (published_of h) + 1 < n))
NumberedStopsIn h changes time n (Differs number) =
    (number ≡ n) × (0 < n) × (n ≤ length (published_of h)) × (IsRepeat h changes time n → ⊥)
NumberedStopsIn h changes time n fault = ⊥

-- why a publication by number that is killed after that many calls isn't done: for the file of the
-- next call; else only for what refuses a whole one
abbrev pub KilledNumberedStopsIn : History → List ChangeValue → ℕ → ℕ → ℕ → RunFault → Type 0
KilledNumberedStopsIn h changes time n calls (ReadFault file) =
    (calls < calls_before n (length (published_of h))) × (file ≡ file_read_after n calls)
KilledNumberedStopsIn h changes time n calls (WriteFault file) =
    (count : ℕ) × (count < 4) × (calls ≡ calls_before n (length (published_of h)) + count)
    × (file ≡ file_after n count)
KilledNumberedStopsIn h changes time n calls fault = NumberedStopsIn h changes time n fault

-- a save of the published sequences under the filter has more bytes than 64 bits count
pub record HasHugeSave (published : List PublishedValue) (given : FilterValue) : Type 0 where
  pub base : ℕ
  pub number : ℕ
  pub told : Option (List ℕ)
  pub saved : IsSaveOf published given base number told
  pub huge : IsHugeFile told

-- why a run of the follower that isn't killed isn't done: never for a file of the folder or for
-- what its save says, but perhaps for its size; and for a journal of another save only if a
-- beginning was cut short, which left one that ends at the number `cut`
abbrev pub FollowingStopsIn :
    List PublishedValue → FilterValue → Option ℕ → RunFault → Type 0
FollowingStopsIn published given cut WantOfMemory = Unit {0}
FollowingStopsIn published given cut (Absent file) = (file ≡ Top) × (length published ≡ 0)
FollowingStopsIn published given cut (TooLarge file) =
    (file ≡ Save) × (HasHugeSave published given ⊎ HasMany published given)
FollowingStopsIn published given cut (OtherJournal n) = cut ≡ Some n
FollowingStopsIn published given cut fault = ⊥

-- fewer calls than a run with a save and a journal of that number may make, which are `most` of
-- what the two files hold
pub record HasFewCalls (published : List PublishedValue) (given : FilterValue) (number : ℕ)
    (most : Option (List ℕ) → Option (List ℕ) → ℕ) (calls : ℕ) : Type 0 where
  pub base : ℕ
  pub save : List ℕ
  pub store : Files
  pub kept : IsKeptOf published given base number save store
  pub alone : IsInStepAlone published given (store save)
  pub short : IsOver max_file (store (journal_name_of save)) → ⊥
  pub few : calls < most (store save) (store (journal_name_of save))

-- fewer calls than a run of the follower from that number may make
abbrev pub LacksFollowingCalls : List PublishedValue → FilterValue → ℕ → ℕ → Type 0
LacksFollowingCalls published given number calls =
    HasFewCalls published given number (λ told journal. kept_calls published number told) calls

-- the file is the save or its journal
abbrev pub IsOfSave : FileName → Type 0
IsOfSave Save = Unit {0}
IsOfSave Journal = Unit {0}
IsOfSave file = ⊥

-- why a run of the follower from that number that is killed after that many calls isn't done: for a
-- call after the last one, if there were fewer than such a run may make; else only for what refuses
-- a whole run
abbrev pub KilledFollowingStopsIn :
    List PublishedValue → FilterValue → Option ℕ → ℕ → ℕ → RunFault → Type 0
KilledFollowingStopsIn published given cut number calls (ReadFault file) =
    LacksFollowingCalls published given number calls
KilledFollowingStopsIn published given cut number calls (WriteFault file) =
    IsOfSave file × LacksFollowingCalls published given number calls
KilledFollowingStopsIn published given cut number calls fault =
    FollowingStopsIn published given cut fault

-- an export has what it exports: something was saved, and the name tells a form
pub record HasExport (h : History) (extract : List ℕ) : Type 0 where
  pub saved : is_saved h ≡ true
  pub named : HasDataForm extract

-- why an export that isn't killed isn't done: for its name, since nothing was saved, for a journal
-- of another save that a beginning has left which was cut short, or if the save has more bytes than
-- 64 bits count; never for what the save says
abbrev pub ExportStopsIn : FilterValue → History → List ℕ → RunFault → Type 0
ExportStopsIn given h extract WantOfMemory = Unit {0}
ExportStopsIn given h extract UnknownForm = HasNoDataForm extract
ExportStopsIn given h extract (Absent file) =
    (file ≡ Save) × HasDataForm extract × (is_saved h ≡ false)
ExportStopsIn given h extract (TooLarge file) =
    (file ≡ Save) × HasDataForm extract × HasHugeSave (published_of h) given
ExportStopsIn given h extract (OtherJournal n) = HasDataForm extract × (cut_of h ≡ Some n)
ExportStopsIn given h extract fault = ⊥

-- fewer calls than an export of the follower's number may make
abbrev pub LacksExportCalls : FilterValue → History → ℕ → Type 0
LacksExportCalls given h calls =
    HasFewCalls (published_of h) given (number_of h)
    (λ told journal. export_kept_calls (bytes_in told) (bytes_in journal)) calls

-- why an export that is killed after that many calls isn't done: for a call after the last one, if
-- there were fewer than it may make; else only for what refuses a whole one
abbrev pub KilledExportStopsIn : FilterValue → History → List ℕ → ℕ → RunFault → Type 0
KilledExportStopsIn given h extract calls (ReadFault file) =
    IsOfSave file × HasDataForm extract × LacksExportCalls given h calls
KilledExportStopsIn given h extract calls (WriteFault file) =
    (file ≡ Output) × HasExport h extract × LacksExportCalls given h calls
KilledExportStopsIn given h extract calls fault = ExportStopsIn given h extract fault

-- a beginning has what it begins with: the name tells a form, and a number above 0 was exported,
-- whose state is there
pub record HasBeginning (h : History) (extract : List ℕ) : Type 0 where
  pub named : HasDataForm extract
  pub above : 0 < beginning_of h
  pub there : is_file_lost h (beginning_of h) State ≡ false

-- the objects that published sequences 1 to the number leave, as the filter keeps them, are more
-- than a save text can have
pub record HasManyToBegin (published : List PublishedValue) (given : FilterValue) (number : ℕ) :
    Type 0 where
  pub objects : List ChangeValue
  pub are_data : IsData objects
  pub content : (k : Key) →
      object_at objects k ≡ kept given (content_of (changes_up_to published number)) k
  pub many : 999999999999999999 < length objects

-- what was exported has a line or a dataset of more than 64 MiB, or more bytes than 64 bits count
pub record HasLargeExtract (published : List PublishedValue) (given : FilterValue) (number : ℕ)
    (extract : List ℕ) : Type 0 where
  pub told : Option (List ℕ)
  pub exported : IsExportOf published given number extract told
  pub large : IsLargeBase extract told

-- no object that was exported is more than eight days after the state of the number
pub record HasTimelyExtract (published : List PublishedValue) (given : FilterValue) (number : ℕ)
    (extract : List ℕ) : Type 0 where
  pub told : Option (List ℕ)
  pub exported : IsExportOf published given number extract told
  pub within : newest_time exported.objects ≤ (sequence_at published number).time + most_after

-- the newest object that was exported is. These are the two times
pub record HasNewerExtract (published : List PublishedValue) (given : FilterValue) (number : ℕ)
    (extract : List ℕ) (time newest : ℕ) : Type 0 where
  pub told : Option (List ℕ)
  pub exported : IsExportOf published given number extract told
  pub time_is : (sequence_at published number).time ≡ time
  pub newest_is : newest_time exported.objects ≡ newest
  pub after : time + most_after < newest

-- fewer calls than a beginning with what was exported may make
pub record LacksBeginCalls (published : List PublishedValue) (given : FilterValue) (number : ℕ)
    (extract : List ℕ) (calls : ℕ) : Type 0 where
  pub told : Option (List ℕ)
  pub exported : IsExportOf published given number extract told
  pub few : calls < begin_kept_calls (bytes_in told)

-- why a beginning that isn't killed isn't done: for its name, since no number above 0 was exported
-- or the state of that number is lost, or for the size of what was exported or of its save; or
-- since an object that was exported is much newer than the state, and for nothing else that the
-- files say
abbrev pub BeginStopsIn : FilterValue → History → List ℕ → RunFault → Type 0
BeginStopsIn given h extract WantOfMemory = Unit {0}
BeginStopsIn given h extract UnknownForm = HasNoDataForm extract
BeginStopsIn given h extract (Absent file) =
    (file ≡ files.State) × HasDataForm extract
    × ((beginning_of h ≡ 0) ⊎ (is_file_lost h (beginning_of h) State ≡ true))
BeginStopsIn given h extract (TooLarge files.Base) =
    HasBeginning h extract × HasLargeExtract (published_of h) given (beginning_of h) extract
BeginStopsIn given h extract (TooLarge file) =
    (file ≡ Save) × HasBeginning h extract
    × HasManyToBegin (published_of h) given (beginning_of h)
BeginStopsIn given h extract (OlderState time newest) =
    HasBeginning h extract
    × HasNewerExtract (published_of h) given (beginning_of h) extract time newest
BeginStopsIn given h extract fault = ⊥

-- why a beginning that is killed after that many calls isn't done: for its first call, if it had
-- none; for a call after the last one, if there were fewer than it may make; else only for what
-- refuses a whole one
abbrev pub KilledBeginStopsIn : FilterValue → History → List ℕ → ℕ → RunFault → Type 0
KilledBeginStopsIn given h extract calls (ReadFault files.State) =
    HasDataForm extract × (calls ≡ 0)
KilledBeginStopsIn given h extract calls (ReadFault files.Base) =
    HasBeginning h extract
    × LacksBeginCalls (published_of h) given (beginning_of h) extract calls
KilledBeginStopsIn given h extract calls (ReadFault file) =
    IsOfSave file × HasBeginning h extract
    × LacksBeginCalls (published_of h) given (beginning_of h) extract calls
KilledBeginStopsIn given h extract calls (WriteFault file) =
    IsOfSave file × HasBeginning h extract
    × LacksBeginCalls (published_of h) given (beginning_of h) extract calls
KilledBeginStopsIn given h extract calls fault = BeginStopsIn given h extract fault

-- what a publication prints: the next number
abbrev pub publication_report : History → ReportValue
publication_report h = publish_report_of (length (published_of h) + 1)

-- what a run of the follower prints: the next numbers, each once, up to the last published one or
-- to a lost one, then the lost numbers after these, then the number that it is at
abbrev pub following_report : History → ReportValue
following_report h =
    follow_report_of (ranges (number_of h) (count_after h (number_of h)))
    (lost_after h (number_of h + count_after h (number_of h)))
    (number_of h + count_after h (number_of h))

-- a publication is done or refused. A killed one that is done had as many calls as it makes; one
-- that the device refused had as many as come before the call that failed
abbrev pub AllowedPublish : History → List ChangeValue → ℕ → Option ℕ → Reply → Type 0
AllowedPublish h changes time calls (Published report) =
    (report ≡ publication_report h) × HasCalls 6 calls
AllowedPublish h changes time None (Refused fault) =
    PublicationStopsIn (published_of h) changes time fault
AllowedPublish h changes time (Some calls) (Refused fault) =
    KilledPublicationStopsIn (published_of h) changes time calls fault
AllowedPublish h changes time calls r = ⊥

-- a publication by number is done: it is the next one, or is published already with those changes
-- at that time
abbrev pub NumberedDone : History → List ChangeValue → ℕ → ℕ → ReportValue → Type 0
NumberedDone h changes time n report =
    (report ≡ publish_report_of n)
    × ((n ≡ length (published_of h) + 1) ⊎ IsRepeat h changes time n)

-- the place of a file among those of a sequence, in the order in which they are written
abbrev pub place_of : Suffix → ℕ
place_of O5c = 0
place_of Opl = 1
place_of State = 2

-- a publication by number stopped while it wrote the newest sequence once more: after so many
-- files, one of which was lost
abbrev pub NumberedCut : History → List ChangeValue → ℕ → ℕ → RunFault → Suffix → ℕ → Type 0
NumberedCut h changes time n fault s count =
    (n ≡ length (published_of h)) × IsRepeat h changes time n × (is_file_lost h n s ≡ true)
    × (place_of s < count) × (count < 4)

-- the fault of a killed publication that is cut off: that of the next call, or want of memory
abbrev pub CutsAfter : ℕ → ℕ → ℕ → RunFault → Type 0
CutsAfter n calls count WantOfMemory = Unit {0}
CutsAfter n calls count (WriteFault file) = (calls ≡ 5 + count) × (file ≡ file_after n count)
CutsAfter n calls count fault = ⊥

-- a publication by number is done, refused, or cut off; a whole one only for want of memory. A
-- killed one that is done had as many calls as it makes; one that the device refused had as many as
-- come before the call that failed
abbrev pub AllowedPublishAs : History → List ChangeValue → ℕ → ℕ → Option ℕ → Reply → Type 0
AllowedPublishAs h changes time n calls (Published report) =
    NumberedDone h changes time n report
    × HasCalls (numbered_calls n (length (published_of h))) calls
AllowedPublishAs h changes time n None (Refused fault) = NumberedStopsIn h changes time n fault
AllowedPublishAs h changes time n (Some calls) (Refused fault) =
    KilledNumberedStopsIn h changes time n calls fault
AllowedPublishAs h changes time n None (CutOff fault s) =
    (fault ≡ WantOfMemory) × ((count : ℕ) × NumberedCut h changes time n fault s count)
AllowedPublishAs h changes time n (Some calls) (CutOff fault s) =
    (count : ℕ) × CutsAfter n calls count fault × NumberedCut h changes time n fault s count
AllowedPublishAs h changes time n calls r = ⊥

-- what a run of the follower prints that takes so many numbers at once
abbrev pub part_report : History → ℕ → ReportValue
part_report h count =
    follow_report_of (ranges (number_of h) count) [] (number_of h + count)

-- a run of the follower came to a part: it took some of the numbers that it can take, not up to the
-- last published one, and their change files have as many bytes as a run takes at once
pub record IsPart (h : History) (report : ReportValue) (count : ℕ) : Type 0 where
  pub some : 0 < count
  pub within : count ≤ count_after h (number_of h)
  pub below : number_of h + count < length (published_of h)
  pub report_is : report ≡ part_report h count
  pub enough : max_round ≤ bytes_after h (number_of h) count

-- a run of the follower is done, came to a part, or is refused. A killed one that is done or came
-- to a part had at least as many calls as the fewest that it makes; one that the device refused had
-- fewer than it may make
abbrev pub AllowedFollow : FilterValue → History → Option ℕ → Reply → Type 0
AllowedFollow given h calls (Followed report) =
    (report ≡ following_report h) × HasCalls 4 calls
AllowedFollow given h calls (FollowedPart report count) =
    IsPart h report count × HasCalls 4 calls
AllowedFollow given h None (Refused fault) =
    FollowingStopsIn (published_of h) given (cut_of h) fault
AllowedFollow given h (Some calls) (Refused fault) =
    KilledFollowingStopsIn (published_of h) given (cut_of h) (number_of h) calls fault
AllowedFollow given h calls r = ⊥

-- why a run of the follower under another filter than the save's isn't done
abbrev pub OtherStopsIn : List PublishedValue → FilterValue → Option ℕ → RunFault → Type 0
OtherStopsIn published given cut WantOfMemory = Unit {0}
OtherStopsIn published given cut OtherFilter = Unit {0}
OtherStopsIn published given cut (TooLarge file) = (file ≡ Save) × HasHugeSave published given
OtherStopsIn published given cut (OtherJournal n) = cut ≡ Some n
OtherStopsIn published given cut fault = ⊥

-- a run of the follower under another filter is refused; none is made if nothing was saved, or if
-- the filter is no other
abbrev pub AllowedFollowOther : FilterValue → History → FilterValue → Reply → Type 0
AllowedFollowOther given h other (Refused fault) =
    (is_saved h ≡ true) × (other ≢ given) × OtherStopsIn (published_of h) given (cut_of h) fault
AllowedFollowOther given h other NotThere = (is_saved h ≡ false) ⊎ (other ≡ given)
AllowedFollowOther given h other r = ⊥

-- the file of a number is that of a published one, and is there
abbrev pub IsFileThere : History → ℕ → Suffix → Type 0
IsFileThere h n s = (0 < n) × (n ≤ length (published_of h)) × (is_file_lost h n s ≡ false)

-- when a file of a number is read, if the number's turn comes: a change file only if the state is
-- there, and the OPL file only if there is no o5c file
abbrev pub IsReadIn : History → ℕ → Suffix → Type 0
IsReadIn h n State = Unit {0}
IsReadIn h n O5c = is_file_lost h n State ≡ false
IsReadIn h n Opl = (is_file_lost h n State ≡ false) × (is_file_lost h n O5c ≡ true)

-- a run of the follower that takes so many numbers reads the file, which is that of one of them
abbrev pub IsReadAmong : History → ℕ → ℕ → Suffix → Type 0
IsReadAmong h count n s = (number_of h < n) × (n ≤ number_of h + count) × IsReadIn h n s

-- a run of the follower reads the file, which is one of the numbers that it can take
abbrev pub IsOnTheWay : History → ℕ → Suffix → Type 0
IsOnTheWay h n s = IsReadAmong h (count_after h (number_of h)) n s

-- it may read the file: that, or the number is the next one, whose state may be read though its
-- changes are lost
abbrev pub IsInTurn : History → ℕ → Suffix → Type 0
IsInTurn h n s =
    (number_of h < n) × (n ≤ number_of h + count_after h (number_of h) + 1) × IsReadIn h n s

-- what a run of the follower prints that comes to the number before n
abbrev pub before_report : History → ℕ → ReportValue
before_report h n = follow_report_of (ranges (number_of h) (n - 1 - number_of h)) [] (n - 1)

-- a run of the follower over a spoiled file is done as over the right one: it didn't read the file
abbrev pub SpoiledDone : History → ℕ → Suffix → ReportValue → Type 0
SpoiledDone h n s report =
    IsFileThere h n s × (report ≡ following_report h) × (IsOnTheWay h n s → ⊥)

-- it came to a part as over the right file: it didn't read the file, and no number after those that
-- it took was looked at
abbrev pub SpoiledPart : History → ℕ → Suffix → ReportValue → ℕ → Type 0
SpoiledPart h n s report count =
    IsFileThere h n s × IsPart h report count × (IsReadAmong h count n s → ⊥)

-- it is done up to the number before the file's, which isn't the follower's own
abbrev pub SpoiledBefore : History → ℕ → Suffix → ReportValue → RunFault → Type 0
SpoiledBefore h n s report fault =
    IsFileThere h n s × (report ≡ before_report h n) × IsInTurn h n s × (number_of h + 1 < n)
    × IsSpoiledFault n s fault

-- why it isn't done: for the spoiled file, if its number is the follower's next one; else only for
-- what refuses a run over the right file
abbrev pub SpoiledStopsIn : FilterValue → History → ℕ → Suffix → RunFault → Type 0
SpoiledStopsIn given h n s fault =
    FollowingStopsIn (published_of h) given (cut_of h) fault
    ⊎ (IsFileThere h n s × IsInTurn h n s × (n ≡ number_of h + 1) × IsSpoiledFault n s fault)

-- why a killed one isn't done: for the device, else only for what refuses a whole one
abbrev pub KilledSpoiledStopsIn : FilterValue → History → ℕ → Suffix → RunFault → Type 0
KilledSpoiledStopsIn given h n s (ReadFault file) = Unit {0}
KilledSpoiledStopsIn given h n s (WriteFault file) = IsOfSave file
KilledSpoiledStopsIn given h n s fault = SpoiledStopsIn given h n s fault

-- there is no file to spoil
abbrev pub NothingToSpoil : History → ℕ → Suffix → Type 0
NothingToSpoil h n s =
    (n ≡ 0) ⊎ (length (published_of h) < n) ⊎ (is_file_lost h n s ≡ true)

-- a run of the follower over a spoiled file is done, came to a part, is done up to it, or refused.
-- A killed one that is done, all or a part, had at least as many calls as the fewest that it makes
abbrev pub AllowedSpoiled : FilterValue → History → ℕ → Suffix → Option ℕ → Reply → Type 0
AllowedSpoiled given h n s calls (Followed report) = SpoiledDone h n s report × HasCalls 4 calls
AllowedSpoiled given h n s calls (FollowedPart report count) =
    SpoiledPart h n s report count × HasCalls 4 calls
AllowedSpoiled given h n s calls (FollowedBefore report fault) =
    SpoiledBefore h n s report fault × HasCalls 4 calls
AllowedSpoiled given h n s None (Refused fault) = SpoiledStopsIn given h n s fault
AllowedSpoiled given h n s (Some calls) (Refused fault) = KilledSpoiledStopsIn given h n s fault
AllowedSpoiled given h n s calls NotThere = NothingToSpoil h n s
AllowedSpoiled given h n s calls r = ⊥

-- an export is done or refused. A killed one that is done had at least as many calls as it makes;
-- one that the device refused had fewer
abbrev pub AllowedExport : FilterValue → History → List ℕ → Option ℕ → Reply → Type 0
AllowedExport given h extract calls (Exported report) =
    (report ≡ convert_report_of) × HasExport h extract × HasCalls 4 calls
AllowedExport given h extract None (Refused fault) = ExportStopsIn given h extract fault
AllowedExport given h extract (Some calls) (Refused fault) =
    KilledExportStopsIn given h extract calls fault
AllowedExport given h extract calls r = ⊥

-- a beginning is cut short after it has written its save: the journal beside it ends at that
-- number, which is above the save's
abbrev pub IsCutAt : History → List ℕ → ℕ → Type 0
IsCutAt h extract n = HasBeginning h extract × (beginning_of h < n)

-- a beginning is done, cut short or refused; it prints the number that was exported last. A killed
-- one that is done had at least as many calls as it makes; one that the device refused had fewer
abbrev pub AllowedBegin : FilterValue → History → List ℕ → Option ℕ → Reply → Type 0
AllowedBegin given h extract calls (Begun report) =
    (report ≡ begin_report_of (beginning_of h)) × HasBeginning h extract
    × HasTimelyExtract (published_of h) given (beginning_of h) extract × HasCalls 3 calls
AllowedBegin given h extract calls (CutShort n) = IsCutAt h extract n
AllowedBegin given h extract None (Refused fault) = BeginStopsIn given h extract fault
AllowedBegin given h extract (Some calls) (Refused fault) =
    KilledBeginStopsIn given h extract calls fault
AllowedBegin given h extract calls r = ⊥

-- the number is that of a published sequence
abbrev pub IsPublishedNumber : History → ℕ → Type 0
IsPublishedNumber h n = (0 < n) × (n ≤ length (published_of h))

-- the number isn't
abbrev pub IsNoNumber : History → ℕ → Type 0
IsNoNumber h n = (n ≡ 0) ⊎ (length (published_of h) < n)

abbrev pub AllowedLose : History → ℕ → Suffix → Reply → Type 0
AllowedLose h n s Lost = IsPublishedNumber h n × (is_file_lost h n s ≡ false)
AllowedLose h n s NotThere = IsNoNumber h n ⊎ (is_file_lost h n s ≡ true)
AllowedLose h n s (Refused fault) = fault ≡ WantOfMemory
AllowedLose h n s r = ⊥

abbrev pub AllowedPutBack : History → ℕ → Suffix → Reply → Type 0
AllowedPutBack h n s IsBack = IsPublishedNumber h n × (is_file_lost h n s ≡ true)
AllowedPutBack h n s NotThere = IsNoNumber h n ⊎ (is_file_lost h n s ≡ false)
AllowedPutBack h n s (Refused fault) = fault ≡ WantOfMemory
AllowedPutBack h n s r = ⊥

-- the reply may follow the history at that operation under the filter, if exports and beginnings
-- are of that file
abbrev pub Allowed : FilterValue → List ℕ → History → Operation → Reply → Type 0
Allowed given extract h (Publish changes time calls) r = AllowedPublish h changes time calls r
Allowed given extract h (PublishAs changes time n calls) r =
    AllowedPublishAs h changes time n calls r
Allowed given extract h (Follow calls) r = AllowedFollow given h calls r
Allowed given extract h (FollowOther other) r = AllowedFollowOther given h other r
Allowed given extract h (FollowSpoiled n s calls) r = AllowedSpoiled given h n s calls r
Allowed given extract h (Export calls) r = AllowedExport given h extract calls r
Allowed given extract h (Begin calls) r = AllowedBegin given h extract calls r
Allowed given extract h (Lose n s) r = AllowedLose h n s r
Allowed given extract h (PutBack n s) r = AllowedPutBack h n s r

-- each reply of a history is allowed after what came before it
abbrev pub AreAllowed : FilterValue → List ℕ → History → Type 0
AreAllowed given extract [] = Unit {0}
AreAllowed given extract (p ∷ h) = Allowed given extract h p.0 p.1 × AreAllowed given extract h
