-- A folder that is whole from a first number to a last one.
use Rattle.std.specs.Prelude.{◌≡◌, ℕ, ◌+◌, ◌<◌, ◌≤◌, List, length}
use Rattle.osm_publisher.specs.Published.{AreSequences, PublishedValue, sequence_at}
use Rattle.osm_store.specs.Files.{Files}
use Rattle.osm_runs.specs.Folder.{IsStateFile, IsThere}
use Rattle.osm_runs.specs.Names.{top_name_of}
use Rattle.osm_runs.specs.Following.{AreFilesOf}

-- its files are those of published sequences, of which each has its state and its changes in one
-- form at least; their times never fall; and the newest state, if it names the last number, is that
-- sequence's. Nothing is asked of the numbers before the first one
pub record IsWhole (files : Files) (dir : List ℕ) (from to : ℕ) : Type 0 where
  pub published : List PublishedValue
  pub sequences : AreSequences published
  pub count : length published ≡ to
  pub each : (k : ℕ) → from ≤ k → k ≤ to → AreFilesOf files dir (sequence_at published k)
  pub rising : (k : ℕ) → from ≤ k → k < to
      → (sequence_at published k).time ≤ (sequence_at published (k + 1)).time
  pub top : (time : ℕ) → from ≤ to → IsThere (files (top_name_of dir)) (IsStateFile to time)
      → time ≡ (sequence_at published to).time
