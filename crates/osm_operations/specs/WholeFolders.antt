-- What a whole folder means for those who follow it or publish in it.
-- `is_known` says that it is known what the files hold.
use Rattle.std.specs.Prelude.{◌≡◌, ℕ, ◌+◌, ◌<◌, ◌≤◌, List, Bool, IsTrue, None, Ok}
use Rattle.std.specs.Prelude.{false}
use Rattle.osm_model.specs.Filter.{FilterValue}
use Rattle.osm_save.specs.declared.save.Saved.{Saved}
use Rattle.osm_store.specs.Files.{Files}
use Rattle.osm_runs.specs.Folder.{IsFolderOf}
use Rattle.osm_runs.specs.Following.{IsReadable, is_lost, last_number}
use Rattle.osm_runs.specs.Keeping.{IsKept}
use Rattle.osm_runs.specs.Progress as progress
use Rattle.osm_publishing.specs.Publication.{PublishStops}
use Rattle.osm_runs.specs.declared.fault.FileName.{FileName}
use Rattle.osm_runs.specs.declared.fault.FileName.TheVariants.{Top, Sequence}
use Rattle.osm_runs.specs.declared.fault.RunFault.{RunFault}
use Rattle.osm_runs.specs.declared.fault.RunFault.TheVariants.{TooLarge, Absent, BadState}
use Rattle.osm_runs.specs.declared.fault.RunFault.TheVariants.{Mismatch, BadChange}
use Rattle.osm_runs.specs.declared.options.FollowOptions.{FollowOptions}
use Rattle.osm_runs.specs.declared.progress.Progress.{Progress}
use Rattle.osm_round.specs.Keeping.{GoesOnKept}
use Rattle.osm_round.specs.KeepingStops.{KeepingStops}
use Rattle.osm_audit.specs.Audit.{IsLast}
use Rattle.osm_audit.specs.Whole.{IsWhole}

-- the file is one of a folder
abbrev pub IsFolderFile : FileName → Type 0
IsFolderFile Top = Unit {0}
IsFolderFile (Sequence number suffix) = Unit {0}
IsFolderFile file = ⊥

-- what a file of the folder holds, or that it isn't there, is the reason. That a number is older
-- than what is kept isn't among them: it is a reason of the save as well
abbrev pub IsOfFolder : RunFault → Type 0
IsOfFolder (TooLarge file) = IsFolderFile file
IsOfFolder (Absent file) = IsFolderFile file
IsOfFolder (BadState file cause) = IsFolderFile file
IsOfFolder (Mismatch number) = Unit {0}
IsOfFolder (BadChange file place why) = IsFolderFile file
IsOfFolder fault = ⊥

-- a follower can read each number of a whole folder, and misses none
abbrev pub WholeIsReadable : Type 0
WholeIsReadable = (files : Files) (dir : List ℕ) (from to k : ℕ) → 0 < from
    → IsWhole files dir from to → from ≤ k → k ≤ to
    → IsReadable files dir k × (is_lost files dir k ≡ false)

-- a save and the journal beside it keep this, and the folder is whole up to its newest state, from
-- the next number at the latest. If there is no save, number 0 is kept, so it is whole from 1
pub record IsWholeAfter (given : FilterValue) (dir save : List ℕ) (files : Files) (from to : ℕ)
    (start : Saved) : Type 0 where
  pub kept : IsKept given save files start
  pub above : 0 < from
  pub next : from ≤ start.number + 1
  pub whole : IsWhole files dir from to
  pub last : IsLast None dir files to

-- no file of such a folder is why a run of the follower is refused
abbrev pub WholeIsFollowed : Type 0
WholeIsFollowed = (is_known : Bool) (options : FollowOptions) (dir save : List ℕ) (files : Files)
    (from to : ℕ) (start : Saved) (fault : RunFault) → IsTrue is_known
    → IsWholeAfter options.filter dir save files from to start
    → KeepingStops (IsTrue is_known) options dir save files fault → IsOfFolder fault → ⊥

-- what is kept now has the last number that a run from that one goes to
pub record ReachesLast (options : FollowOptions) (save : List ℕ) (new : Files) (number to : ℕ)
    : Type 0 where
  pub reached : Saved
  pub kept : IsKept options.filter save new reached
  pub far : reached.number ≡ last_number options.limit number to

-- nor why one ends early, as it does before a missing or a faulty number
abbrev pub WholeIsReached : Type 0
WholeIsReached = (is_known : Bool) (options : FollowOptions) (dir save : List ℕ)
    (old new : Files) (from to : ℕ) (start : Saved) (run : Progress) → IsTrue is_known
    → IsWholeAfter options.filter dir save old from to start
    → GoesOnKept (IsTrue is_known) options dir save old new run
    → progress.IsWhole options (Ok run) (λ under r. ReachesLast under save new start.number to)

-- no file of a folder that has a newest state is why a publication stops
abbrev pub WholeIsPublishedIn : Type 0
WholeIsPublishedIn = (is_known : Bool) (dir changes now : List ℕ) (files new : Files) (to : ℕ)
    (fault : RunFault) → IsTrue is_known → IsLast None dir files to
    → PublishStops (IsTrue is_known) dir changes now files new fault → IsOfFolder fault → ⊥

-- a folder that is whole from 1 up to its newest state is the folder of what was published
abbrev pub WholeIsFolder : Type 0
WholeIsFolder = (files : Files) (dir : List ℕ) (to : ℕ) → 0 < to → (w : IsWhole files dir 1 to)
    → IsLast None dir files to → IsFolderOf w.published files dir
