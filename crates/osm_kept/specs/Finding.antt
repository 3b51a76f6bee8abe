-- What is read of a save and its journal.
use Rattle.std.specs.Prelude.{◌≡◌, ℕ, ◌+◌, ◌*◌, ◌≤◌, List, [], ◌++◌, length, Option, Some}
use Rattle.std.specs.Prelude.{None}
use Rattle.std.specs.List.{AllByRecursion}
use Rattle.osm_model.specs.Change.{ChangeValue}
use Rattle.osm_model.specs.Filter.{IsFilter}
use Rattle.osm_model.specs.Limits.{max_changes, max_sequence}
use Rattle.osm_net.specs.Laid.{laid_on}
use Rattle.osm_net.specs.Net.{IsNetOf, WidensBy, no_net}
use Rattle.osm_o5c.specs.File.{SpellsO5c}
use Rattle.osm_save.specs.Filters.{TellsFilter}
use Rattle.osm_save.specs.Head.{IsHeadIn, IsTimeOf, head_of}
use Rattle.osm_save.specs.Lines.{ended}
use Rattle.osm_save.specs.Save.{SpellsSave, most_objects, saved_with}
use Rattle.osm_save.specs.declared.save.Saved.{Saved}
use Rattle.osm_journal.specs.Journal.{BatchValue, JournalValue, SpellsJournal, save_start}
use Rattle.osm_kept.specs.Kept.{BelongsTo, IsOfAnother, Keeps}
use Rattle.osm_kept.specs.declared.found.Found.{Found}
use Rattle.osm_kept.specs.declared.found.JournalFile.{JournalFile}
use Rattle.osm_kept.specs.declared.found.JournalFile.TheVariants.{Counts, Nothing, OfAnother}
use Rattle.osm_kept.specs.declared.found.Kept.{Kept}
use Rattle.osm_kept.specs.declared.start.Start.{Start}

-- what a save begins with, within the limits of its version
pub record IsStart (start : Start) : Type 0 where
  pub head : IsHeadIn start.version start.head
  pub filter : IsFilter start.filter
  pub tells : TellsFilter start.version start.filter
  pub objects : start.objects ≤ most_objects start.version start.head.number

-- what is saved has that head, that filter and that many objects
pub record IsStartOf (v : Saved) (start : Start) : Type 0 where
  pub head : head_of v ≡ start.head
  pub filter : v.filter ≡ start.filter
  pub objects : length v.mirror.objects ≡ start.objects

-- the file begins with those lines, which are those of what it saves if it is a save text
pub record StartsAs (told : Option (List ℕ)) (start : Start) : Type 0 where
  pub file : List ℕ
  pub there : told ≡ Some file
  pub rest : List ℕ
  pub begins : file
      ≡ ended (save_start start.version start.head start.filter start.objects) ++ rest
  pub is : (v : Saved) → SpellsSave file v → IsStartOf v start

-- what is left of the save's mirror after the batches
abbrev pub kept_after : Kept → Saved → Saved
kept_after kept saved =
    saved_with kept.head kept.start.filter (laid_on kept.net saved.mirror)

-- what the two files keep is what the save saves, with that head and after the net changes; so they
-- keep something exactly if the save is a save text, and the head is known before all of it is read
pub record KeepsAs (told journal : Option (List ℕ)) (kept : Kept) : Type 0 where
  pub starts : StartsAs told kept.start
  pub keeps : (file : List ℕ) (saved : Saved) → told ≡ Some file → SpellsSave file saved
      → Keeps told journal (kept_after kept saved)
  pub only : (v : Saved) → Keeps told journal v
      → (head_of v ≡ kept.head) × (v.filter ≡ kept.start.filter)

-- what is kept; none if there is no save
abbrev pub IsKept : Option (List ℕ) → Option (List ℕ) → Option Kept → Type 0
IsKept told journal None = told ≡ None
IsKept told journal (Some kept) = KeepsAs told journal kept

-- the bytes of a batch are those of a change file
pub record IsRightBatch (b : BatchValue) : Type 0 where
  pub changes : List ChangeValue
  pub spells : SpellsO5c b.bytes changes

-- the bytes are a journal of that save, and those of its batches are change files
pub record CountsAs (told journal : Option (List ℕ)) (bytes : List ℕ) : Type 0 where
  pub there : journal ≡ Some bytes
  pub value : JournalValue
  pub spells : SpellsJournal bytes value
  pub belongs : BelongsTo value told
  pub right : AllByRecursion IsRightBatch value.batches

-- the bytes of a file; none if there is no such file
abbrev pub bytes_of : Option (List ℕ) → List ℕ
bytes_of None = []
bytes_of (Some bytes) = bytes

-- what the file of the journal is
abbrev pub IsJournalFile : Option (List ℕ) → Option (List ℕ) → JournalFile → Type 0
IsJournalFile told journal Nothing = bytes_of journal ≡ []
IsJournalFile told journal OfAnother = IsOfAnother told (bytes_of journal)
IsJournalFile told journal (Counts bytes) = CountsAs told journal bytes.items

-- what is found in the two files
pub record Finds (told journal : Option (List ℕ)) (found : Found) : Type 0 where
  pub journal_is : IsJournalFile told journal found.journal
  pub kept_is : IsKept told journal found.kept

-- whatever the files hold: the head is that of a number of batches after that of the save, and the
-- net changes are theirs under the filter of the save; each has no more changes than a sequence may
-- have
pub record IsTakenOn (kept : Kept) : Type 0 where
  pub is_start : IsStart kept.start
  pub count : ℕ
  pub number : kept.head.number ≡ kept.start.head.number + count
  pub limit : kept.head.number ≤ max_sequence
  pub base : kept.head.base ≡ kept.start.head.base
  pub time : IsTimeOf kept.head.number kept.head.time
  pub none : count ≡ 0 → (kept.head ≡ kept.start.head) × (kept.net ≡ no_net)
  pub changes : List ChangeValue
  pub few : length changes ≤ max_changes * count
  pub net : IsNetOf kept.start.filter changes kept.net
  pub widens : WidensBy (length changes) no_net kept.net
