-- When a text is refused.
use Rattle.std.specs.Prelude.{◌≡◌, ℕ, List, ◌++◌, codes}
use Rattle.osm_journal.specs.Journal.{JournalValue, SpellsJournal}
use Rattle.osm_journal.specs.declared.journal.JournalError.{JournalError}
use Rattle.osm_journal.specs.declared.journal.JournalError.TheVariants.{BadLine, WantOfMemory}

-- the first line is that of a journal
pub record BeginsJournal (bytes : List ℕ) : Type 0 where
  pub rest : List ℕ
  pub parts : bytes ≡ codes "osmrepl-journal 1\n" ++ rest

-- a line is bad only if the bytes spell no journal, and memory is refused only to bytes whose first
-- line is that of one
abbrev pub JournalStops : List ℕ → JournalError → Type 0
JournalStops bytes WantOfMemory = BeginsJournal bytes
JournalStops bytes (BadLine line) = (j : JournalValue) → SpellsJournal bytes j → ⊥
