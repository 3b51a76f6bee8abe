-- What was written to a file that isn't in its place yet.
use Rattle.std.specs.Prelude.{◌≡◌, ℕ, List, ◌++◌, Option, Some, Bool, true}
use Rattle.osm_store.specs.Files.{Stage}

-- what a writer holds: the bytes that it didn't append yet, and whether it writes at all
pub record Waiting : Type 0 where
  pub bytes : List ℕ
  pub is_writing : Bool

-- the file that was begun at the name has that text, with the bytes that wait
pub record IsWritten (stage : Option Stage) (waiting : Waiting) (name text : List ℕ) : Type 0 where
  pub appended : List ℕ
  pub staged : stage ≡ Some (name, appended)
  pub whole : text ≡ appended ++ waiting.bytes
  pub writes : waiting.is_writing ≡ true
