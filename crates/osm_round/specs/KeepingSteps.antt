-- The steps of a run that goes on from what its save and the journal beside it keep. `known` says
-- that it is known what the files hold, and `given` is the filter that the run was given.
use Rattle.std.specs.Prelude.{◌≡◌, ◌≢◌, ℕ, ◌+◌, ◌-◌, ◌*◌, ◌<◌, ◌⊎◌, List, [], length, map, Option}
use Rattle.std.specs.Prelude.{Some, None, Result, true, unwrap_or}
use Rattle.osm_model.specs.Filter.{FilterValue}
use Rattle.osm_save.specs.Head.{head_of}
use Rattle.osm_save.specs.declared.head.Head.{Head}
use Rattle.osm_save.specs.declared.save.Saved.{Saved}
use Rattle.osm_publisher.specs.Published.{PublishedValue}
use Rattle.osm_store.specs.Files.{Files, IsOver}
use Rattle.osm_store.specs.Frames.{IsKnown, MakesAtMost, StoreState}
use Rattle.osm_net.specs.Net.{IsJoined, IsOrderlyNet, NetValue}
use Rattle.osm_journal.specs.Journal.{BatchValue}
use Rattle.osm_kept.specs.Finding.{Finds, bytes_of}
use Rattle.osm_kept.specs.Names.{journal_name_of}
use Rattle.osm_kept.specs.Reaching.{FindsEnds, IsReachIn, ends_of, found_of}
use Rattle.osm_kept.specs.Refusal.{EndsStop, IsBadJournal, IsOfOnce}
use Rattle.osm_kept.specs.declared.fault.KeptFault.{KeptFault}
use Rattle.osm_kept.specs.declared.found.Ends.{Ends}
use Rattle.osm_kept.specs.declared.found.JournalFile.{JournalFile}
use Rattle.osm_kept.specs.declared.found.Reach.{Reach}
use Rattle.osm_runs.specs.Checking.{IsTooLarge}
use Rattle.osm_merge.specs.Calls.{bytes_in, merge_calls}
use Rattle.osm_merge.specs.Checking.{IsNoSave}
use Rattle.osm_runs.specs.Folder.{IsFolderOf}
use Rattle.osm_runs.specs.Keeping.{IsKept, IsKeptOf, kept_fault_of}
use Rattle.osm_runs.specs.Runs.{IsDeviceFault}
use Rattle.osm_runs.specs.declared.fault.FileName.TheVariants.{Journal, Save}
use Rattle.osm_runs.specs.declared.fault.RunFault.{RunFault}
use Rattle.osm_runs.specs.declared.fault.RunFault.TheVariants.{Absent, BadJournal, BadSave}
use Rattle.osm_runs.specs.declared.fault.RunFault.TheVariants.{Changed, ReadFault}
use Rattle.osm_runs.specs.declared.fault.RunFault.TheVariants.{TooLarge, WantOfMemory, WriteFault}
use Rattle.osm_runs.specs.declared.options.FollowOptions.{FollowOptions}
use Rattle.osm_runs.specs.declared.progress.Progress.{Progress}
use Rattle.osm_round.specs.Gathering.{KeepsUpTo, batch_in}
use Rattle.osm_round.specs.Keeping.{ChangesBoth, GoesOnKept, IsFree, IsJournalAfter, IsJournalWith}
use Rattle.osm_round.specs.Keeping.{IsKeptWithinRoom, IsLongWith, IsShortAfter, IsTooLong}
use Rattle.osm_round.specs.Keeping.{SavesAlone, WasKept}
use Rattle.osm_round.specs.News.{TakenValue}
use Rattle.osm_round.specs.Putting.{saved_after}
use Rattle.osm_round.specs.Rounds.{IsWhole}
use Rattle.osm_round.specs.Taking.{IsTaken}
use Rattle.osm_round.specs.declared.gathered.Gathered.{Gathered}
use Rattle.osm_round.specs.declared.kept.Sizes.{Sizes}

-- the save is there, under another filter
abbrev pub IsOtherFilter : FilterValue → Option Reach → Type 0
IsOtherFilter given None = ⊥
IsOtherFilter given (Some reach) = reach.start.filter ≢ given

-- what was read of the two files, if that is known, is what they hold, and no run is refused for
-- the journal
pub record AreEnds (known : Type 0) (save : List ℕ) (files : Files) (ends : Ends) : Type 0 where
  pub reach : IsReachIn ends.journal ends.kept
  pub found : known → FindsEnds (files save) (files (journal_name_of save)) ends
  pub free : known → IsFree save files

-- whatever is kept has that head and the given filter
abbrev pub AreAt : FilterValue → List ℕ → Files → Head → Type 0
AreAt given save files head = (start : Saved) → IsKept given save files start
    → (head_of start ≡ head) × (start.filter ≡ given)

-- what was taken after what was kept is kept too
pub record KeepsAfter (given : FilterValue) (save : List ℕ) (taken : TakenValue) (old new : Files)
    : Type 0 where
  pub kept : (start : Saved) → IsKept given save old start
      → IsKept given save new (saved_after start taken)
  pub there : new save ≡ None → old save ≡ None
  pub others : ChangesBoth save old new

-- there is no save, and the journal is empty or isn't there
pub record HasNeither (save : List ℕ) (files : Files) : Type 0 where
  pub none : files save ≡ None
  pub empty : bytes_of (files (journal_name_of save)) ≡ []

-- the journal is as it was
abbrev pub JournalStays : List ℕ → Files → Files → Type 0
JournalStays save old new = new (journal_name_of save) ≡ old (journal_name_of save)

-- why what was taken isn't saved in the two files. `many` says that there are too many objects then
abbrev pub PutKeptStops : Type 0 → Option (List ℕ) → Option (List ℕ) → Type 0 → RunFault → Type 0
PutKeptStops known told journal many WantOfMemory = Unit {0}
PutKeptStops known told journal many (ReadFault Save) = Unit {0}
PutKeptStops known told journal many (WriteFault Save) = Unit {0}
PutKeptStops known told journal many (WriteFault Journal) = Unit {0}
PutKeptStops known told journal many (Absent Save) = known → ⊥
PutKeptStops known told journal many (Changed Save) = known → ⊥
PutKeptStops known told journal many (TooLarge Save) = known → IsTooLarge told ⊎ many
PutKeptStops known told journal many (BadSave line) = known → IsNoSave told
PutKeptStops known told journal many (BadJournal line) = known → IsBadJournal told journal line
PutKeptStops known told journal many fault = ⊥

-- if it is known what the save holds, no more calls are made than those of a merge into it
abbrev pub MergesWithin : {T : Type 0} → List ℕ → StoreState → StoreState → Result T RunFault
    → Type 0
MergesWithin save old new result = IsKnown old
    → MakesAtMost IsDeviceFault (merge_calls (bytes_in (old.files save))) old new result

-- what is kept has more objects after what was taken than a save can have
pub record HasManyKept (given : FilterValue) (save : List ℕ) (taken : TakenValue) (files : Files)
    : Type 0 where
  pub start : Saved
  pub kept : IsKept given save files start
  pub many : 999999999999999999 < length (saved_after start taken).mirror.objects

-- why it isn't saved in the two files of a store
abbrev pub PutStops : FilterValue → List ℕ → TakenValue → StoreState → RunFault → Type 0
PutStops given save taken old fault = PutKeptStops (IsKnown old) (old.files save)
    (old.files (journal_name_of save)) (HasManyKept given save taken old.files) fault

-- the net changes of the journal with those of what was taken after them
pub record JoinsTo (f : FilterValue) (reach : Reach) (file : JournalFile) (taken all : TakenValue)
    : Type 0 where
  pub head : all.head ≡ taken.head
  pub net : NetValue
  pub orderly : IsOrderlyNet net
  pub found : (told journal : Option (List ℕ)) → FindsEnds told journal (ends_of reach file)
      → Finds told journal (found_of reach net file)
  pub joined : IsJoined net taken.net all.net
  pub later : IsOrderlyNet taken.net
  pub count : ℕ
  pub is : IsTaken f reach.start.head count all

-- why they aren't joined
abbrev pub JoinStops : Reach → JournalFile → RunFault → Type 0
JoinStops reach file WantOfMemory = Unit {0}
JoinStops reach file (BadJournal line) = (told journal : Option (List ℕ))
    → FindsEnds told journal (ends_of reach file) → IsBadJournal told journal line
JoinStops reach file fault = ⊥

-- the two files aren't read, each once
abbrev pub IsBothFault : Type 0 → Option (List ℕ) → Option (List ℕ) → RunFault → Type 0
IsBothFault known told journal fault =
    (k : KeptFault) × (fault ≡ kept_fault_of k) × IsOfOnce k × (known → EndsStop told journal k)

-- a block of the save isn't read
abbrev pub IsSaveFault : RunFault → Type 0
IsSaveFault fault = (fault ≡ WantOfMemory) ⊎ (fault ≡ ReadFault Save)

-- neither is how far they reach, nor whether the save is a large one
abbrev pub IsReadingFault : Type 0 → Option (List ℕ) → Option (List ℕ) → RunFault → Type 0
IsReadingFault known told journal fault =
    IsBothFault known told journal fault ⊎ IsSaveFault fault

-- the most bytes of the journal beside a large save; none is written beside a small one, or none
abbrev pub IsMostBeside : Sizes → Option (List ℕ) → Option ℕ → Type 0
IsMostBeside sizes told None = IsOver sizes.small told → ⊥
IsMostBeside sizes told (Some most) = (most ≡ sizes.most) × IsOver sizes.small told

-- the journal isn't written
abbrev pub IsJournalFault : RunFault → Type 0
IsJournalFault fault = (fault ≡ WantOfMemory) ⊎ (fault ≡ WriteFault Journal)

-- the most bytes of a journal that is written; none is, beside a small save
abbrev pub bound_of : Option ℕ → ℕ
bound_of most = unwrap_or most 0

-- a save that changed is small, or there was none, or the journal would be too long with what was
-- gathered
abbrev pub IsDue : Option ℕ → Option (List ℕ) → Option (List ℕ) → Gathered → Type 0
IsDue None told file g = Unit {0}
IsDue (Some most) told file g = (batches : List BatchValue) → KeepsUpTo most batches g g.is_whole
    → (told ≡ None) ⊎ IsLongWith most told file batches

pub record ChangesWith (most : Option ℕ) (given : FilterValue) (save : List ℕ) (g : Gathered)
    (old : Files) : Type 0 where
  pub was : WasKept given save old
  pub due : IsDue most (old save) (old (journal_name_of save)) g

-- the save is as it was, or it was due
abbrev pub SavesOnly : Option ℕ → FilterValue → List ℕ → Gathered → Files → Files → Type 0
SavesOnly most given save g old new =
    (new save ≡ old save) ⊎ ChangesWith most given save g old

-- the journal has what was gathered after its batches
pub record HasGathered (save : List ℕ) (g : Gathered) (old new : Files) : Type 0 where
  pub whole : g.is_whole ≡ true
  pub bytes : List ℕ
  pub there : new (journal_name_of save) ≡ Some bytes
  pub is : IsJournalWith (old save) (old (journal_name_of save)) (map batch_in g.texts.items) bytes

-- the journal is as it was, or it has that
abbrev pub IsJournalWithAll : List ℕ → Gathered → Files → Files → Type 0
IsJournalWithAll save g old new = JournalStays save old new ⊎ HasGathered save g old new

-- nothing was taken, or a save was written with what was taken
pub record PutsSave (given : FilterValue) (save : List ℕ) (taken : TakenValue) (old new : Files)
    : Type 0 where
  pub kept : KeepsAfter given save taken old new
  pub alone : SavesAlone given save old new
  pub journal : JournalStays save old new
  pub free : IsFree save new

-- the same, or the journal was written with what was gathered of it
pub record PutsKept (most : Option ℕ) (given : FilterValue) (save : List ℕ) (taken : TakenValue)
    (g : Gathered) (old new : Files) : Type 0 where
  pub kept : KeepsAfter given save taken old new
  pub alone : SavesAlone given save old new
  pub whole : most ≡ None → IsWhole (old save)
  pub stays : SavesOnly most given save g old new
  pub short : IsShortAfter (bound_of most) save old new
  pub batches : IsJournalWithAll save g old new
  pub free : IsFree save new

-- the text of the journal that has what was gathered
pub record IsTextOf (reach : Reach) (file : JournalFile) (g : Gathered) (bytes : List ℕ) : Type 0
  where
    pub whole : g.is_whole ≡ true
    pub is : (told journal : Option (List ℕ)) → FindsEnds told journal (ends_of reach file)
        → IsJournalWith told journal (map batch_in g.texts.items) bytes

-- the same of a run
abbrev pub IsDueIn : Option ℕ → FilterValue → List ℕ → List ℕ → Files → Files → Type 0
IsDueIn None given dir save old new = Unit {0}
IsDueIn (Some most) given dir save old new =
    (old save ≡ None) ⊎ IsTooLong most given dir save old new

pub record ChangesIn (most : Option ℕ) (given : FilterValue) (dir save : List ℕ) (old new : Files)
    : Type 0 where
  pub was : WasKept given save old
  pub due : IsDueIn most given dir save old new

abbrev pub SavesOnlyIn : Option ℕ → FilterValue → List ℕ → List ℕ → Files → Files → Type 0
SavesOnlyIn most given dir save old new =
    (new save ≡ old save) ⊎ ChangesIn most given dir save old new

-- what a run does to the two files and reports, where `most` is that of a large save
pub record FollowsFrom (known : Type 0) (options : FollowOptions) (most : Option ℕ)
    (dir save : List ℕ) (old new : Files) (progress : Progress) : Type 0 where
  pub done : GoesOnKept known options dir save old new progress
  pub whole : most ≡ None → IsWhole (old save)
  pub alone : SavesAlone options.filter save old new
  pub stays : SavesOnlyIn most options.filter dir save old new
  pub short : IsShortAfter (bound_of most) save old new
  pub batches : IsJournalAfter dir save old new
  pub room : IsKeptWithinRoom options dir save old new

-- over the folder of published sequences, from a save and a journal that are in step with them up
-- to some number, no more calls are made than so many, those of the numbers after it, and those of
-- a merge into the save
abbrev pub FollowsWithin : {T : Type 0} → ℕ → FilterValue → List ℕ → List ℕ → StoreState
    → StoreState → Result T RunFault → Type 0
FollowsWithin more given dir save old new result = IsKnown old
    → (published : List PublishedValue) (base number : ℕ) → IsFolderOf published old.files dir
    → IsKeptOf published given base number save old.files → MakesAtMost IsDeviceFault
    (more + 3 * (length published - number) + merge_calls (bytes_in (old.files save)))
    old new result
