-- Reading what a save begins with. `known` says that it is known what the files hold.
use Rattle.std.specs.Prelude.{◌≡◌, ℕ, List, codes, Option, Some, None}
use Rattle.osm_reading.specs.Answers.{and_then}
use Rattle.osm_save.specs.Reading.{head_at, numbered_at}
use Rattle.osm_save.specs.Save.{most_objects}
use Rattle.osm_journal.specs.Journal.{JournalValue}
use Rattle.osm_kept.specs.Finding.{StartsAs}
use Rattle.osm_kept.specs.Refusal.{IsNoSave}
use Rattle.osm_kept.specs.declared.fault.KeptFault.{KeptFault}
use Rattle.osm_kept.specs.declared.fault.KeptFault.TheVariants.{BadSave, SaveFailed, WantOfMemory}
use Rattle.osm_kept.specs.declared.start.Start.{Start}

-- what a save begins with, and the bytes after it
unfoldable pub start_at : List ℕ → Option (Start × List ℕ)
start_at bytes =
    and_then (head_at bytes) (λ h.
    and_then (numbered_at (codes "objects ") (most_objects h.0 h.1.number) h.3) (λ o.
    Some (record { version = h.0; head = h.1; filter = h.2; objects = o.0 }, o.1)))

-- the bytes begin with that
pub record ReadsStart (bytes : List ℕ) (start : Start) : Type 0 where
  pub rest : List ℕ
  pub read : start_at bytes ≡ Some (start, rest)

-- what the save begins with; none if there is no save
abbrev pub TellsStart : Option (List ℕ) → Option Start → Type 0
TellsStart told None = told ≡ None
TellsStart told (Some start) = StartsAs told start

-- why bytes don't begin as a save does
abbrev pub StartTextStops : List ℕ → KeptFault → Type 0
StartTextStops bytes (BadSave line) = start_at bytes ≡ None
StartTextStops bytes WantOfMemory = Unit {0}
StartTextStops bytes fault = ⊥

-- why it isn't read what a save begins with
abbrev pub StartStops : Type 0 → Option (List ℕ) → KeptFault → Type 0
StartStops known told SaveFailed = Unit {0}
StartStops known told (BadSave line) = known → IsNoSave told
StartStops known told WantOfMemory = Unit {0}
StartStops known told fault = ⊥

-- what a journal says that its save begins with
abbrev pub start_in : JournalValue → Start
start_in j =
    record { version = j.version; head = j.head; filter = j.kept_by; objects = j.objects }
