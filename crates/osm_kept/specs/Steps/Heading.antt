-- Reading the head that a save and its journal come to.
use Rattle.std.specs.Prelude.{◌≡◌, ◌≢◌, ℕ, ◌<◌, List, length, Option}
use Rattle.osm_store.specs.Files.{prefix_of}
use Rattle.osm_journal.specs.Openings.{OpensJournal}
use Rattle.osm_journal.specs.declared.opening.Opening.{Opening}
use Rattle.osm_kept.specs.Finding.{bytes_of}
use Rattle.osm_kept.specs.Heads.{head_said, start_said}
use Rattle.osm_kept.specs.Steps.Starting.{TellsStart}
use Rattle.osm_kept.specs.declared.fault.KeptFault.{KeptFault}
use Rattle.osm_kept.specs.declared.fault.KeptFault.TheVariants.{BadJournal, JournalFailed}
use Rattle.osm_kept.specs.declared.fault.KeptFault.TheVariants.{OtherJournal, WantOfMemory}
use Rattle.osm_kept.specs.declared.start.Start.{Start}

-- how many bytes are read of each of the two files, if it has as many
abbrev pub max_first : ℕ
max_first = 409600

-- the first bytes of a file; none if there is no such file
abbrev pub first_of : Option (List ℕ) → List ℕ
first_of told = bytes_of (prefix_of max_first told)

-- why the lines of a journal before its batches aren't read
abbrev pub OpeningStops : List ℕ → KeptFault → Type 0
OpeningStops bytes (BadJournal line) = (o : Opening) → OpensJournal bytes o → ⊥
OpeningStops bytes WantOfMemory = Unit {0}
OpeningStops bytes fault = ⊥

-- a journal with that opening is one of another save than one that begins so, and ends at that
-- number, which is above
pub record IsOpenedAbove (start : Start) (bytes : List ℕ) (number : ℕ) : Type 0 where
  pub opening : Opening
  pub opens : OpensJournal bytes opening
  pub other : start_said opening ≢ start
  pub ends : number ≡ (head_said opening).number
  pub above : start.head.number < number

-- a journal with that opening ends at that number
pub record IsOpenedAt (bytes : List ℕ) (number : ℕ) : Type 0 where
  pub opening : Opening
  pub opens : OpensJournal bytes opening
  pub ends : number ≡ (head_said opening).number

-- why bytes that may be none come to no head beside a save that begins so
abbrev pub BesideStops : Start → List ℕ → KeptFault → Type 0
BesideStops start bytes (OtherJournal number) = IsOpenedAbove start bytes number
BesideStops start bytes fault = (0 < length bytes) × OpeningStops bytes fault

-- why they aren't taken without a save
abbrev pub JudgeStops : List ℕ → KeptFault → Type 0
JudgeStops bytes (OtherJournal number) = IsOpenedAt bytes number
JudgeStops bytes fault = (0 < length bytes) × OpeningStops bytes fault

-- why the first bytes of a journal aren't read
abbrev pub FirstStops : KeptFault → Type 0
FirstStops JournalFailed = Unit {0}
FirstStops WantOfMemory = Unit {0}
FirstStops fault = ⊥

-- what the save begins with, and the first bytes of the journal
pub record HoldsFirst (told journal : Option (List ℕ)) (start : Option Start) (bytes : List ℕ)
    : Type 0 where
  pub starts : TellsStart told start
  pub first : first_of journal ≡ bytes
