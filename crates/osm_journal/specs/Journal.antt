-- The text of a journal: what batches a follower has taken since its save was written (our choice).
use Rattle.std.specs.Prelude.{◌≡◌, ℕ, ◌+◌, ◌<◌, ◌≤◌, List, [], ◌∷◌, ◌++◌, length, map, codes}
use Rattle.std.specs.Prelude.{decimal, Option, Some}
use Rattle.std.specs.List.{AllByRecursion}
use Rattle.osm_model.specs.CivilTime.{time_text}
use Rattle.osm_model.specs.Filter.{FilterValue, IsFilter}
use Rattle.osm_model.specs.Limits.{IsPositive, max_file, max_sequence}
use Rattle.osm_save.specs.Filters.{TellsFilter}
use Rattle.osm_save.specs.Head.{IsHeadIn, head_lines, maybe_time_text}
use Rattle.osm_save.specs.Lines.{ended}
use Rattle.osm_save.specs.Save.{most_objects}
use Rattle.osm_save.specs.declared.head.Head.{Head}
use Rattle.osm_save.specs.declared.version.Version.{Version}
use Rattle.osm_journal.specs.declared.batch.Batch.{Batch}
use Rattle.osm_journal.specs.declared.journal.Journal.{Journal}

-- the number and the time of a sequence, and the bytes of its change file
pub record BatchValue : Type 0 where
  pub number : ℕ
  pub time : ℕ
  pub bytes : List ℕ

-- of the save that the journal belongs to its version, its head, its filter and the number of its
-- objects; and the batches that came after it
pub record JournalValue : Type 0 where
  pub version : Version
  pub head : Head
  pub kept_by : FilterValue
  pub objects : ℕ
  pub batches : List BatchValue

-- the value of a batch
abbrev pub batch_of : Batch → BatchValue
batch_of b = record { number = b.number; time = b.time; bytes = b.bytes.now }

-- the value of a journal
abbrev pub journal_of : Journal → JournalValue
journal_of j = record {
  version = j.version;
  head = j.head;
  kept_by = j.filter;
  objects = j.objects;
  batches = map batch_of j.batches.items;
}

-- the number of the last batch, or without any the number that the batches come after
abbrev pub last_number : ℕ → List BatchValue → ℕ
last_number number [] = number
last_number number (b ∷ bs) = last_number b.number bs

-- the time of the last batch, or without any the time that the batches come after
abbrev pub last_time : Option ℕ → List BatchValue → Option ℕ
last_time time [] = time
last_time time (b ∷ bs) = last_time (Some b.time) bs

-- what a save text begins with, through the line with the number of its objects, as lines without
-- their ends
abbrev pub save_start : Version → Head → FilterValue → ℕ → List (List ℕ)
save_start version head f objects =
    head_lines version head f ++ (codes "objects " ++ decimal objects) ∷ []

-- the lines before the batches, without their ends
abbrev pub opening_lines : JournalValue → List (List ℕ)
opening_lines j =
    codes "osmrepl-journal 1"
    ∷ save_start j.version j.head j.kept_by j.objects
    ++ (codes "sequence " ++ decimal (last_number j.head.number j.batches))
    ∷ (codes "time " ++ maybe_time_text (last_time j.head.time j.batches))
    ∷ (codes "batches " ++ decimal (length j.batches))
    ∷ []

-- `batch NUMBER TIME LENGTH`
abbrev pub batch_line : BatchValue → List ℕ
batch_line b =
    codes "batch "
    ++ (decimal b.number ++ 32 ∷ (time_text b.time ++ 32 ∷ decimal (length b.bytes)))

-- the lines of the batches, and the bytes of each after its line, both ended by LF
abbrev pub batches_text : List BatchValue → List ℕ
batches_text [] = []
batches_text (b ∷ bs) = batch_line b ++ 10 ∷ (b.bytes ++ 10 ∷ batches_text bs)

-- the one text of a journal
abbrev pub journal_text : JournalValue → List ℕ
journal_text j = ended (opening_lines j) ++ (batches_text j.batches ++ codes "end\n")

-- a batch within the limits
pub record IsBatch (b : BatchValue) : Type 0 where
  pub number : b.number ≤ max_sequence
  pub time : IsPositive b.time
  pub short : length b.bytes ≤ max_file

-- the numbers of the batches are those that come after the number, one by one
abbrev pub Follow : ℕ → List BatchValue → Type 0
Follow number [] = Unit {0}
Follow number (b ∷ bs) = (b.number ≡ number + 1) × Follow b.number bs

-- a journal: what a head of a save text can have, a number of objects that its text can have, and
-- at least one batch
pub record IsJournal (j : JournalValue) : Type 0 where
  pub head : IsHeadIn j.version j.head
  pub filter : IsFilter j.kept_by
  pub tells : TellsFilter j.version j.kept_by
  pub objects : j.objects ≤ most_objects j.version j.head.number
  pub some : 0 < length j.batches
  pub batches : AllByRecursion IsBatch j.batches
  pub follow : Follow j.head.number j.batches

-- the bytes are the text of a journal
pub record SpellsJournal (bytes : List ℕ) (j : JournalValue) : Type 0 where
  pub journal : IsJournal j
  pub text : bytes ≡ journal_text j
