-- An audit of a folder: from a first number, 1 if none is given, to a last one, that of the newest
-- state if none is given.
use Rattle.std.specs.Prelude.{◌≡◌, ℕ, ◌+◌, ◌-◌, ◌*◌, ◌<◌, ◌≤◌, ◌⊎◌, List}
use Rattle.std.specs.Prelude.{Option, Some, None, IfSome}
use Rattle.osm_model.specs.Limits.{max_sequence}
use Rattle.osm_store.specs.Files.{Files}
use Rattle.osm_runs.specs.Folder.{IsStateFile, IsThere}
use Rattle.osm_runs.specs.Names.{top_name_of}
use Rattle.osm_audit.specs.Findings.{AreFindings}
use Rattle.osm_audit.specs.declared.finding.Found.{Found}

-- the range that was looked through, and what was found, in its order
pub record AuditValue : Type 0 where
  pub from : ℕ
  pub to : ℕ
  pub findings : List Found

-- the last number
abbrev pub IsLast : Option ℕ → List ℕ → Files → ℕ → Type 0
IsLast None dir files last =
    (time : ℕ) × IsThere (files (top_name_of dir)) (IsStateFile last time)
IsLast (Some to) dir files last = last ≡ to

-- the numbers that are asked for are in a range: from 1 on, and not above the last one. A folder
-- whose newest state is that of 0 has the empty range 1 to 0
abbrev pub IsRange : ℕ → Option ℕ → ℕ → Type 0
IsRange from None last =
    (0 < from) × (last ≤ max_sequence) × ((from ≤ last) ⊎ ((from ≡ 1) × (last ≡ 0)))
IsRange from (Some to) last = (0 < from) × (to ≤ max_sequence) × (from ≤ to)

-- an audit of a folder
pub record IsAudit (to : Option ℕ) (dir : List ℕ) (files : Files) (a : AuditValue) : Type 0 where
  pub last : IsLast to dir files a.to
  pub found : AreFindings files dir a.from a.to a.findings

-- an audit has the range that was asked for, whatever is known of the files
pub record IsAsked (from : ℕ) (to : Option ℕ) (a : AuditValue) : Type 0 where
  pub first : a.from ≡ from
  pub range : IsRange from to a.to
  pub given : IfSome to (λ n. a.to ≡ n)

-- how many calls of the store an audit makes: the newest state, and three files of each number
abbrev pub audit_calls : ℕ → ℕ → ℕ
audit_calls from last = 1 + 3 * (last + 1 - from)
