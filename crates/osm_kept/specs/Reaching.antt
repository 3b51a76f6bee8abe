-- How far a save and its journal reach, which is read without the bytes of the batches.
use Rattle.std.specs.Prelude.{◌≡◌, ℕ, ◌+◌, ◌<◌, ◌≤◌, List, [], ◌++◌, length, Option}
use Rattle.std.specs.Prelude.{Some, None, Vec}
use Rattle.osm_model.specs.Limits.{max_sequence}
use Rattle.osm_net.specs.Net.{NetValue}
use Rattle.osm_save.specs.Head.{IsTimeOf, head_of}
use Rattle.osm_save.specs.declared.head.Head.{Head}
use Rattle.osm_save.specs.declared.save.Saved.{Saved}
use Rattle.osm_journal.specs.Journal.{BatchValue, IsJournal, JournalValue, SpellsJournal}
use Rattle.osm_journal.specs.Journal.{journal_text, last_number, last_time}
use Rattle.osm_kept.specs.Finding.{IsStart, StartsAs, bytes_of}
use Rattle.osm_kept.specs.Kept.{BelongsTo, Keeps}
use Rattle.osm_kept.specs.Refusal.{IsOlder}
use Rattle.osm_kept.specs.declared.found.Ends.{Ends}
use Rattle.osm_kept.specs.declared.found.Found.{Found}
use Rattle.osm_kept.specs.declared.found.JournalFile.{JournalFile}
use Rattle.osm_kept.specs.declared.found.JournalFile.TheVariants.{Counts, Nothing, OfAnother}
use Rattle.osm_kept.specs.declared.found.Kept.{Kept}
use Rattle.osm_kept.specs.declared.found.Reach.{Reach}
use Rattle.osm_kept.specs.declared.start.Start.{Start}

-- the journal of a save that begins so, with those batches
abbrev pub journal_after : Start → List BatchValue → JournalValue
journal_after start batches = record {
  version = start.version;
  head = start.head;
  kept_by = start.filter;
  objects = start.objects;
  batches = batches;
}

-- the head after batches: the number and the time of the last one
abbrev pub head_past : Head → List BatchValue → Head
head_past head batches = record {
  number = last_number head.number batches;
  base = head.base;
  time = last_time head.time batches;
}

-- the batches that the file of the journal has after a save that begins so: those of a journal that
-- counts, or none
abbrev pub HasBatches : Start → JournalFile → List BatchValue → Type 0
HasBatches start Nothing batches = batches ≡ []
HasBatches start OfAnother batches = batches ≡ []
HasBatches start (Counts bytes) batches = SpellsJournal bytes.items (journal_after start batches)

-- whatever the files hold: the head is that of the save after the batches of the journal
pub record IsReach (reach : Reach) (journal : JournalFile) : Type 0 where
  pub is_start : IsStart reach.start
  pub batches : List BatchValue
  pub has : HasBatches reach.start journal batches
  pub head : reach.head ≡ head_past reach.start.head batches
  pub number : reach.head.number ≡ reach.start.head.number + length batches
  pub limit : reach.head.number ≤ max_sequence
  pub base : reach.head.base ≡ reach.start.head.base
  pub time : IsTimeOf reach.head.number reach.head.time

-- the same of what was read; nothing if there is no save
abbrev pub IsReachIn : JournalFile → Option Reach → Type 0
IsReachIn journal None = Unit {0}
IsReachIn journal (Some reach) = IsReach reach journal

-- the head and the filter are those of what the two files keep, if they keep something: that isn't
-- known before the batches and all of the save are read
pub record ReachesAs (told journal : Option (List ℕ)) (reach : Reach) : Type 0 where
  pub starts : StartsAs told reach.start
  pub only : (v : Saved) → Keeps told journal v
      → (head_of v ≡ reach.head) × (v.filter ≡ reach.start.filter)

-- how far the two files reach; none if there is no save
abbrev pub IsReached : Option (List ℕ) → Option (List ℕ) → Option Reach → Type 0
IsReached told journal None = told ≡ None
IsReached told journal (Some reach) = ReachesAs told journal reach

-- the bytes are a journal of that save, whatever the bytes of its batches are
pub record IsJournalOf (told journal : Option (List ℕ)) (bytes : List ℕ) : Type 0 where
  pub there : journal ≡ Some bytes
  pub value : JournalValue
  pub spells : SpellsJournal bytes value
  pub belongs : BelongsTo value told

-- what the file of the journal is
abbrev pub IsFileOf : Option (List ℕ) → Option (List ℕ) → JournalFile → Type 0
IsFileOf told journal Nothing = bytes_of journal ≡ []
IsFileOf told journal OfAnother = IsOlder told (bytes_of journal)
IsFileOf told journal (Counts bytes) = IsJournalOf told journal bytes.items

-- what is found at the ends of the two files
pub record FindsEnds (told journal : Option (List ℕ)) (ends : Ends) : Type 0 where
  pub journal_is : IsFileOf told journal ends.journal
  pub reached : IsReached told journal ends.kept

-- what was read of two files with a save
abbrev pub ends_of : Reach → JournalFile → Ends
ends_of reach journal = record { kept = Some reach; journal = journal }

-- the same with the net changes of the batches
abbrev pub kept_of : Reach → NetValue → Kept
kept_of reach net = record { start = reach.start; head = reach.head; net = net }

abbrev pub found_of : Reach → NetValue → JournalFile → Found
found_of reach net journal = record { kept = Some (kept_of reach net); journal = journal }

-- ---- the journal with more batches

-- the answer is that text, or none if it has more bytes than that
abbrev pub IsTextWithin : {Z : Type 0} → ℕ → List ℕ → Option (Vec ℕ Z) → Type 0
IsTextWithin most text None = most < length text
IsTextWithin most text (Some answer) = (answer.items ≡ text) × (length text ≤ most)

-- the text of the journal with more batches at its end, or of a first one
pub record IsNextText {Z : Type 0} (most : ℕ) (start : Start) (journal : JournalFile)
    (batches : List BatchValue) (answer : Option (Vec ℕ Z)) : Type 0 where
  pub before : List BatchValue
  pub has : HasBatches start journal before
  pub is : IsJournal (journal_after start (before ++ batches))
  pub text : IsTextWithin most (journal_text (journal_after start (before ++ batches))) answer
