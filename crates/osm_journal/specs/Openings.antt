-- What a journal says before its batches, which can be read alone.
use Rattle.std.specs.Prelude.{◌≡◌, ℕ, ◌+◌, ◌<◌, ◌≤◌, List, [], ◌∷◌, ◌++◌, length, codes, decimal}
use Rattle.std.specs.Prelude.{Some}
use Rattle.osm_model.specs.CivilTime.{time_text}
use Rattle.osm_model.specs.Filter.{IsFilter}
use Rattle.osm_model.specs.Limits.{IsPositive, max_sequence}
use Rattle.osm_save.specs.Filters.{TellsFilter}
use Rattle.osm_save.specs.Head.{IsHeadIn}
use Rattle.osm_save.specs.Lines.{ended}
use Rattle.osm_save.specs.Save.{most_objects}
use Rattle.osm_journal.specs.Journal.{JournalValue, last_time, save_start}
use Rattle.osm_journal.specs.Refusal.{BeginsJournal}
use Rattle.osm_journal.specs.declared.journal.JournalError.{JournalError}
use Rattle.osm_journal.specs.declared.journal.JournalError.TheVariants.{BadLine, WantOfMemory}
use Rattle.osm_journal.specs.declared.opening.Opening.{Opening}

-- the lines that say it, without their ends
abbrev pub said_lines : Opening → List (List ℕ)
said_lines o =
    codes "osmrepl-journal 1"
    ∷ save_start o.version o.head o.filter o.objects
    ++ (codes "sequence " ++ decimal (o.head.number + o.many))
    ∷ (codes "time " ++ time_text o.last)
    ∷ (codes "batches " ++ decimal o.many)
    ∷ []

-- what a journal can say before its batches
pub record IsOpening (o : Opening) : Type 0 where
  pub head : IsHeadIn o.version o.head
  pub filter : IsFilter o.filter
  pub tells : TellsFilter o.version o.filter
  pub objects : o.objects ≤ most_objects o.version o.head.number
  pub some : 0 < o.many
  pub limit : o.head.number + o.many ≤ max_sequence
  pub last : IsPositive o.last

-- the bytes begin with the lines that say it
pub record OpensJournal (bytes : List ℕ) (o : Opening) : Type 0 where
  pub is : IsOpening o
  pub rest : List ℕ
  pub begins : bytes ≡ ended (said_lines o) ++ rest

-- the journal says so before its batches
pub record SaysOf (o : Opening) (j : JournalValue) : Type 0 where
  pub version : o.version ≡ j.version
  pub head : o.head ≡ j.head
  pub filter : o.filter ≡ j.kept_by
  pub objects : o.objects ≡ j.objects
  pub many : o.many ≡ length j.batches
  pub last : last_time j.head.time j.batches ≡ Some o.last

-- the most bytes of these lines
abbrev pub max_opening : ℕ
max_opening = 408302

-- a line is bad only if the bytes begin with no such lines, and memory is refused only to bytes
-- whose first line is that of a journal
abbrev pub OpeningStops : List ℕ → JournalError → Type 0
OpeningStops bytes WantOfMemory = BeginsJournal bytes
OpeningStops bytes (BadLine line) = (o : Opening) → OpensJournal bytes o → ⊥
