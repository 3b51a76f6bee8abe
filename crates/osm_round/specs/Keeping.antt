-- What a run of the follower does that goes on from what its save and the journal beside it keep:
-- it leaves in the two files what they kept with the next numbers applied. `known` says that it is
-- known what the files hold, and `options` are the filter, the limit and the layout of the run.
use Rattle.std.specs.Prelude.{◌≡◌, ℕ, ◌+◌, ◌-◌, ◌<◌, ◌≤◌, ◌⊎◌, List, [], length, Option, Some}
use Rattle.std.specs.Prelude.{◌++◌, None}
use Rattle.std.specs.List.{AllByRecursion}
use Rattle.osm_model.specs.Filter.{FilterValue}
use Rattle.osm_save.specs.declared.head.Head.{Head}
use Rattle.osm_save.specs.declared.save.Saved.{Saved}
use Rattle.osm_state.specs.State.{StateValue}
use Rattle.osm_store.specs.Files.{Files, IsOver}
use Rattle.osm_journal.specs.Journal.{BatchValue, Follow, JournalValue, SpellsJournal}
use Rattle.osm_journal.specs.Journal.{journal_text}
use Rattle.osm_kept.specs.Kept.{AreBatchesIn, BelongsTo}
use Rattle.osm_kept.specs.Names.{journal_name_of}
use Rattle.osm_kept.specs.Reaching.{FindsEnds, IsReachIn}
use Rattle.osm_kept.specs.Refusal.{HasNoOther}
use Rattle.osm_kept.specs.declared.found.Ends.{Ends}
use Rattle.osm_kept.specs.declared.found.Reach.{Reach}
use Rattle.osm_runs.specs.Following.{AddsAll, GoesOn, IsSaved, IsTopState, NumberStops, bytes_of}
use Rattle.osm_runs.specs.Following.{end_of, limited, lost_numbers, no_head, ranges}
use Rattle.osm_runs.specs.Following.{standing_of}
use Rattle.osm_runs.specs.Keeping.{IsKept}
use Rattle.osm_runs.specs.Names.{top_name_of}
use Rattle.osm_runs.specs.Progress.{IsOfContent}
use Rattle.osm_runs.specs.Reports.{ReportValue, report_of}
use Rattle.osm_runs.specs.declared.fault.RunFault.{RunFault}
use Rattle.osm_runs.specs.declared.options.FollowOptions.{FollowOptions}
use Rattle.osm_runs.specs.declared.progress.Progress.{Progress}
use Rattle.osm_runs.specs.declared.progress.Progress.TheVariants.{Before, Part, Whole}
use Rattle.osm_round.specs.Gathering.{IsWritten}
use Rattle.osm_round.specs.Rounds.{IsPrepared, IsWhole, max_round, progress_of, room_of}
use Rattle.osm_round.specs.Taking.{LeavesRoom}
use Rattle.osm_round.specs.declared.kept.Sizes.{Sizes}
use Rattle.osm_round.specs.declared.round.Prepared.{Prepared}

-- ---- what it reports, and what is kept then

-- what was kept is under the given filter, and the folder has that newest state
pub record StartsFrom (given : FilterValue) (dir : List ℕ) (files : Files) (start : Saved)
    (top : StateValue) : Type 0 where
  pub filter_is : start.filter ≡ given
  pub top_is : IsTopState (files (top_name_of dir)) top

-- from that start a run goes on to what is kept now, and reports how far it came
pub record GoesOnFrom (options : FollowOptions) (dir save : List ℕ) (old new : Files)
    (report : ReportValue) (start : Saved) : Type 0 where
  pub top : StateValue
  pub starts : StartsFrom options.filter dir old start top
  pub count : ℕ
  pub reached : Saved
  pub goes_on : GoesOn old dir start (end_of options start top) count reached
  pub kept : IsKept options.filter save new reached
  pub report_is : report ≡ report_of options.layout None (record {
    standing = standing_of reached top;
    applied = ranges start.number count;
    missing = lost_numbers old dir reached.number (end_of options start top);
  })

-- it does what one does that may take so many numbers. It might have taken more, and the change
-- files of those that it took have as many bytes as are taken at once
pub record GoesOnInPart (options : FollowOptions) (dir save : List ℕ) (old new : Files)
    (report : ReportValue) (count : ℕ) (start : Saved) : Type 0 where
  pub goes : GoesOnFrom (limited count options) dir save old new report start
  pub count_is : goes.count ≡ count
  pub below : start.number + count < end_of options start goes.top
  pub enough : max_round ≤ bytes_of old dir start.number count

-- it comes to the number before a faulty one, and takes some
pub record GoesUpTo (known : Type 0) (options : FollowOptions) (dir save : List ℕ)
    (old new : Files) (fault : RunFault) (report : ReportValue) (start : Saved) : Type 0 where
  pub top : StateValue
  pub starts : StartsFrom options.filter dir old start top
  pub count : ℕ
  pub some : 0 < count
  pub reached : Saved
  pub added : AddsAll old dir count start reached
  pub below : reached.number < end_of options start top
  pub content : IsOfContent fault (reached.number + 1)
  pub stops : NumberStops known dir old reached.time (reached.number + 1) fault
  pub kept : IsKept options.filter save new reached
  pub said : List ℕ
  pub report_is : report ≡ report_of options.layout (Some said) (record {
    standing = standing_of reached top;
    applied = ranges start.number count;
    missing = [];
  })

-- what a run does from that start
abbrev pub GoesFrom : Type 0 → FollowOptions → List ℕ → List ℕ → Files → Files → Progress → Saved
    → Type 0
GoesFrom known options dir save old new (Whole report) =
    GoesOnFrom options dir save old new report
GoesFrom known options dir save old new (Part report applied count) =
    GoesOnInPart options dir save old new report count
GoesFrom known options dir save old new (Before report fault) =
    GoesUpTo known options dir save old new fault report

-- no file changes but the save and its journal
abbrev pub ChangesBoth : List ℕ → Files → Files → Type 0
ChangesBoth save old new = (name : List ℕ) → (name ≡ save → ⊥)
    → (name ≡ journal_name_of save → ⊥) → new name ≡ old name

-- the journal isn't one of another save that ends above this one, for which a run is refused
abbrev pub IsFree : List ℕ → Files → Type 0
IsFree save files = HasNoOther (files save) (files (journal_name_of save))

-- the journal says nothing or counts, whatever the bytes of its batches are
abbrev pub HasRightJournal : List ℕ → Files → Type 0
HasRightJournal save files =
    (batches : List BatchValue) × AreBatchesIn (files save) (files (journal_name_of save)) batches

-- the head that the two files come to; that of the start if there is no save
abbrev pub head_in : Option Reach → Head
head_in None = no_head
head_in (Some reach) = reach.head

-- the save, if there is one, is under that filter
abbrev pub IsUnder : FilterValue → Option Reach → Type 0
IsUnder given None = Unit {0}
IsUnder given (Some reach) = reach.start.filter ≡ given

-- whatever else the two files hold, it reports what it took after the head that they come to
pub record ReportsFrom (known : Type 0) (options : FollowOptions) (dir save : List ℕ) (old : Files)
    (progress : Progress) : Type 0 where
  pub ends : Ends
  pub reach : IsReachIn ends.journal ends.kept
  pub found : FindsEnds (old save) (old (journal_name_of save)) ends
  pub under : IsUnder options.filter ends.kept
  pub prepared : Prepared
  pub is : IsPrepared known options dir old (head_in ends.kept) prepared
  pub progress_is : progress ≡ progress_of prepared.report prepared.ending

-- what a run does. The journal said nothing or counted. If the two files kept nothing, as with a
-- large save that is no save text, or with a batch that is no change file, what it reports is still
-- that of the numbers after the head that they come to, no other file changes, and no save is
-- removed. If it takes nothing, no file changes. If there is no save afterwards, it took nothing,
-- for what is kept then is the start
pub record GoesOnKept (known : Type 0) (options : FollowOptions) (dir save : List ℕ)
    (old new : Files) (progress : Progress) : Type 0 where
  pub free_before : IsFree save old
  pub right_before : HasRightJournal save old
  pub reports : ReportsFrom known options dir save old progress
  pub from : (start : Saved) → IsKept options.filter save old start
      → GoesFrom known options dir save old new progress start
  pub there : new save ≡ None → old save ≡ None
  pub still : (start reached : Saved) → IsKept options.filter save old start
      → IsKept options.filter save new reached → reached.number ≡ start.number → new ≡ old
  pub others : ChangesBoth save old new
  pub free : IsFree save new

-- a run takes no number after those that fill its room: the change files of all that it took but
-- the last leave room for more
pub record IsKeptWithinRoom (options : FollowOptions) (dir save : List ℕ) (old new : Files)
    : Type 0 where
  pub room : (start reached : Saved) → IsKept options.filter save old start
      → IsKept options.filter save new reached → LeavesRoom (room_of options.layout)
      (bytes_of old dir start.number (reached.number - start.number - 1))

-- ---- which of the two files it writes

-- the journal of the save with these batches at its end, or with these alone, has more than that
-- many bytes
pub record IsLongWith (most : ℕ) (told file : Option (List ℕ)) (batches : List BatchValue) : Type 0
  where
    pub before : List BatchValue
    pub are_old : AreBatchesIn told file before
    pub journal : JournalValue
    pub belongs : BelongsTo journal told
    pub has : journal.batches ≡ before ++ batches
    pub long : most < length (journal_text journal)

-- what was kept and what is kept now are so many numbers apart that the journal would be too long
-- with the batches of all of them
pub record IsTooLong (most : ℕ) (given : FilterValue) (dir save : List ℕ) (old new : Files)
    : Type 0 where
  pub start : Saved
  pub kept : IsKept given save old start
  pub reached : Saved
  pub kept_now : IsKept given save new reached
  pub batches : List BatchValue
  pub follow : Follow start.number batches
  pub all : reached.number ≡ start.number + length batches
  pub written : AllByRecursion (IsWritten (Unit {0}) old dir) batches
  pub long : IsLongWith most (old save) (old (journal_name_of save)) batches

-- something was kept, and the save was a save text, or there was none
pub record WasKept (given : FilterValue) (save : List ℕ) (files : Files) : Type 0 where
  pub start : Saved
  pub kept : IsKept given save files start
  pub whole : IsWhole (files save)

-- a save changes only if the two files kept something, and there was none, it is small, or the
-- journal would be too long
pub record ChangesSave (sizes : Sizes) (given : FilterValue) (dir save : List ℕ) (old new : Files)
    : Type 0 where
  pub was : WasKept given save old
  pub due : (IsOver sizes.small (old save) → ⊥) ⊎ IsTooLong sizes.most given dir save old new

abbrev pub StaysUnlessDue : Sizes → FilterValue → List ℕ → List ℕ → Files → Files → Type 0
StaysUnlessDue sizes given dir save old new =
    (new save ≡ old save) ⊎ ChangesSave sizes given dir save old new

-- a save that a run writes keeps alone what the two files keep
abbrev pub SavesAlone : FilterValue → List ℕ → Files → Files → Type 0
SavesAlone given save old new =
    (new save ≡ old save)
    ⊎ ((v : Saved) → IsKept given save new v → IsSaved given (new save) v)

-- the journal is as it was, or has at most that many bytes
abbrev pub IsShortAfter : ℕ → List ℕ → Files → Files → Type 0
IsShortAfter most save old new = (new (journal_name_of save) ≡ old (journal_name_of save))
    ⊎ ((bytes : List ℕ) × (new (journal_name_of save) ≡ Some bytes) × (length bytes ≤ most))

-- beside a small save, or if there is none, the journal is as it was
abbrev pub StaysBesideSmall : ℕ → List ℕ → Files → Files → Type 0
StaysBesideSmall small save old new = (IsOver small (old save) → ⊥)
    → new (journal_name_of save) ≡ old (journal_name_of save)

-- the bytes are a journal of the save with the batches of the one of before, if that counts, and
-- these after them
pub record IsJournalWith (told file : Option (List ℕ)) (batches : List BatchValue) (bytes : List ℕ)
    : Type 0 where
  pub before : List BatchValue
  pub are_old : AreBatchesIn told file before
  pub value : JournalValue
  pub spells : SpellsJournal bytes value
  pub belongs : BelongsTo value told
  pub has : value.batches ≡ before ++ batches

-- so is the journal, and these are batches of sequences of the folder
pub record HasMoreBatches (dir save : List ℕ) (old new : Files) : Type 0 where
  pub batches : List BatchValue
  pub written : AllByRecursion (IsWritten (Unit {0}) old dir) batches
  pub bytes : List ℕ
  pub there : new (journal_name_of save) ≡ Some bytes
  pub is : IsJournalWith (old save) (old (journal_name_of save)) batches bytes

-- the journal is as it was, or it has such batches
abbrev pub IsJournalAfter : List ℕ → List ℕ → Files → Files → Type 0
IsJournalAfter dir save old new =
    (new (journal_name_of save) ≡ old (journal_name_of save)) ⊎ HasMoreBatches dir save old new

-- ---- all together

-- what the run does with files that are known. It goes on from what the save and its journal keep,
-- and they keep then what it comes to, so far as its room lets it come. A small save was a save
-- text, or there was none. The save changes only if it has to and the two files kept something, and
-- then it keeps alone what they keep. A journal that changes has more batches at its end, isn't too
-- long, and lies beside a large save
pub record IsFollowed (known : Type 0) (options : FollowOptions) (sizes : Sizes)
    (dir save : List ℕ) (old new : Files) (progress : Progress) : Type 0 where
  pub goes_on : GoesOnKept known options dir save old new progress
  pub room : IsKeptWithinRoom options dir save old new
  pub whole : (IsOver sizes.small (old save) → ⊥) → IsWhole (old save)
  pub stays : StaysUnlessDue sizes options.filter dir save old new
  pub alone : SavesAlone options.filter save old new
  pub batches : IsJournalAfter dir save old new
  pub short : IsShortAfter sizes.most save old new
  pub journal : StaysBesideSmall sizes.small save old new
