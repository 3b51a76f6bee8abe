-- What findings mean.
use Rattle.std.specs.Prelude.{ℕ, ◌≤◌, List, Contains}
use Rattle.osm_state.specs.declared.paths.Suffix.{Suffix}
use Rattle.osm_store.specs.Files.{Files}
use Rattle.osm_runs.specs.declared.fault.FileName.TheVariants.{Top, Sequence}
use Rattle.osm_audit.specs.Findings.{AreFindings, IsFound, IsInRange, IsLost, IsOtherTop}
use Rattle.osm_audit.specs.Findings.{IsTrueFinding, IsWrong}
use Rattle.osm_audit.specs.declared.finding.Cause.{Cause}
use Rattle.osm_audit.specs.declared.finding.Found.{Found}

-- each finding is true
abbrev pub FindingsAreTrue : Type 0
FindingsAreTrue = (files : Files) (dir : List ℕ) (from to : ℕ) (found : List Found) (f : Found)
    → AreFindings files dir from to found → Contains found f → IsTrueFinding files dir from to f

-- each file that is wrong for some cause has a finding, if a file of its number is there
abbrev pub WrongFilesAreFound : Type 0
WrongFilesAreFound = (files : Files) (dir : List ℕ) (from to k : ℕ) (suffix : Suffix)
    (cause : Cause) (found : List Found) → AreFindings files dir from to found → from ≤ k → k ≤ to
    → (IsLost files dir k → ⊥) → IsWrong files dir from k suffix cause
    → IsFound found (Sequence k suffix)

-- if none is there, the number is in a range
abbrev pub LostNumbersAreFound : Type 0
LostNumbersAreFound = (files : Files) (dir : List ℕ) (from to k : ℕ) (found : List Found)
    → AreFindings files dir from to found → from ≤ k → k ≤ to → IsLost files dir k
    → IsInRange found k

-- the newest state has a finding if it is wrong
abbrev pub WrongTopIsFound : Type 0
WrongTopIsFound = (files : Files) (dir : List ℕ) (from to : ℕ) (found : List Found)
    → AreFindings files dir from to found → IsOtherTop files dir from to → IsFound found Top
