-- Why a save and its journal aren't read.
use Rattle.std.specs.Prelude.{◌≡◌, ℕ, ◌+◌, ◌<◌, ◌≤◌, ◌⊎◌, List, ◌∷◌, ◌++◌, length, Option, Some}
use Rattle.std.specs.Prelude.{None}
use Rattle.std.specs.List.{AllByRecursion}
use Rattle.osm_model.specs.ChangeForm.{SpellsNothing}
use Rattle.osm_model.specs.Limits.{max_file}
use Rattle.osm_o5c.specs.File.{SpellsO5c}
use Rattle.osm_save.specs.Lines.{ended}
use Rattle.osm_save.specs.Save.{SpellsSave}
use Rattle.osm_save.specs.declared.save.Saved.{Saved}
use Rattle.osm_store.specs.Files.{HasFewer, IsOver}
use Rattle.osm_journal.specs.Journal.{BatchValue, JournalValue, SpellsJournal, last_number}
use Rattle.osm_journal.specs.Journal.{opening_lines, save_start}
use Rattle.osm_journal.specs.Openings.{OpensJournal}
use Rattle.osm_journal.specs.declared.opening.Opening.{Opening}
use Rattle.osm_kept.specs.Finding.{IsRightBatch, IsStart, StartsAs, bytes_of}
use Rattle.osm_kept.specs.Heads.{head_said}
use Rattle.osm_kept.specs.Kept.{BelongsTo}
use Rattle.osm_kept.specs.declared.fault.KeptFault.{KeptFault}
use Rattle.osm_kept.specs.declared.fault.KeptFault.TheVariants.{BadJournal, BadSave, Changed}
use Rattle.osm_kept.specs.declared.fault.KeptFault.TheVariants.{JournalFailed, JournalTooLarge}
use Rattle.osm_kept.specs.declared.fault.KeptFault.TheVariants.{OtherJournal, SaveFailed}
use Rattle.osm_kept.specs.declared.fault.KeptFault.TheVariants.{WantOfMemory}
use Rattle.osm_kept.specs.declared.start.Start.{Start}

-- the first batch whose bytes are no change file has the line with that number, where the bytes of
-- batches aren't counted
pub record IsBadBatchAt (j : JournalValue) (line : ℕ) : Type 0 where
  pub before : List BatchValue
  pub bad : BatchValue
  pub after : List BatchValue
  pub parts : j.batches ≡ before ++ bad ∷ after
  pub right : AllByRecursion IsRightBatch before
  pub none : SpellsNothing SpellsO5c bad.bytes
  pub place : line ≡ length (opening_lines j) + length before + 1

-- a journal of that save with such a batch
pub record HasBadBatch (told : Option (List ℕ)) (bytes : List ℕ) (line : ℕ) : Type 0 where
  pub value : JournalValue
  pub spells : SpellsJournal bytes value
  pub belongs : BelongsTo value told
  pub batch : IsBadBatchAt value line

-- the file isn't empty, and is no journal, or it is one of that save with a batch whose bytes are
-- no change file
pub record IsBadJournal (told journal : Option (List ℕ)) (line : ℕ) : Type 0 where
  pub bytes : List ℕ
  pub there : journal ≡ Some bytes
  pub some : 0 < length bytes
  pub bad : ((j : JournalValue) → SpellsJournal bytes j → ⊥) ⊎ HasBadBatch told bytes line

-- the file is the save text of nothing
pub record IsNoSave (told : Option (List ℕ)) : Type 0 where
  pub file : List ℕ
  pub there : told ≡ Some file
  pub none : (v : Saved) → SpellsSave file v → ⊥

-- the file begins with the lines of a save of that number, which is the number of what it saves if
-- it is a save text
pub record IsAt (told : Option (List ℕ)) (number : ℕ) : Type 0 where
  pub start : Start
  pub is_start : IsStart start
  pub starts : StartsAs told start
  pub number_is : number ≡ start.head.number

-- there is no save, or its number is below that one
abbrev pub IsBelow : Option (List ℕ) → ℕ → Type 0
IsBelow told number = (told ≡ None) ⊎ ((at : ℕ) × IsAt told at × (at < number))

-- the journal is one of another save, and ends at that number, which is above that of the save
pub record IsOther (told journal : Option (List ℕ)) (number : ℕ) : Type 0 where
  pub bytes : List ℕ
  pub there : journal ≡ Some bytes
  pub value : JournalValue
  pub spells : SpellsJournal bytes value
  pub ends : number ≡ last_number value.head.number value.batches
  pub other : BelongsTo value told → ⊥
  pub above : IsBelow told number

-- it is no such journal, whatever its number
abbrev pub HasNoOther : Option (List ℕ) → Option (List ℕ) → Type 0
HasNoOther told journal = (number : ℕ) → IsOther told journal number → ⊥

-- the bytes are a journal of another save, and don't end above the number of the save
pub record IsOlder (told : Option (List ℕ)) (bytes : List ℕ) : Type 0 where
  pub value : JournalValue
  pub spells : SpellsJournal bytes value
  pub other : BelongsTo value told → ⊥
  pub at : ℕ
  pub is_at : IsAt told at
  pub within : last_number value.head.number value.batches ≤ at

-- why they aren't read: a line is bad only if nothing is kept, and files that are known don't
-- change
abbrev pub KeptStops : Option (List ℕ) → Option (List ℕ) → KeptFault → Type 0
KeptStops told journal JournalFailed = Unit {0}
KeptStops told journal JournalTooLarge = IsOver max_file journal
KeptStops told journal (BadJournal line) = IsBadJournal told journal line
KeptStops told journal (OtherJournal number) = IsOther told journal number
KeptStops told journal SaveFailed = Unit {0}
KeptStops told journal (BadSave line) = IsNoSave told
KeptStops told journal Changed = ⊥
KeptStops told journal WantOfMemory = Unit {0}

-- the file isn't empty, and is no journal
pub record IsNoJournalText (journal : Option (List ℕ)) : Type 0 where
  pub bytes : List ℕ
  pub there : journal ≡ Some bytes
  pub some : 0 < length bytes
  pub none : (j : JournalValue) → SpellsJournal bytes j → ⊥

-- why it isn't read how far they reach: a bad batch isn't found
abbrev pub EndsStop : Option (List ℕ) → Option (List ℕ) → KeptFault → Type 0
EndsStop told journal (BadJournal line) = IsNoJournalText journal
EndsStop told journal fault = KeptStops told journal fault

-- the two files were read once
abbrev pub IsOfOnce : KeptFault → Type 0
IsOfOnce Changed = ⊥
IsOfOnce fault = Unit {0}

-- the journal is one of another save
abbrev pub IsOfOtherJournal : KeptFault → Type 0
IsOfOtherJournal (OtherJournal number) = Unit {0}
IsOfOtherJournal fault = ⊥

-- why the batches of a journal aren't taken
abbrev pub NetStops : Option (List ℕ) → Option (List ℕ) → KeptFault → Type 0
NetStops told journal (BadJournal line) = IsBadJournal told journal line
NetStops told journal WantOfMemory = Unit {0}
NetStops told journal fault = ⊥

-- a batch or memory is the reason
abbrev pub IsOfBatches : KeptFault → Type 0
IsOfBatches (BadJournal line) = Unit {0}
IsOfBatches WantOfMemory = Unit {0}
IsOfBatches fault = ⊥

-- the save doesn't begin with the lines that a journal with that opening has of it
abbrev pub OpensNone : Option (List ℕ) → Opening → Type 0
OpensNone told o = (file rest : List ℕ) → told ≡ Some file
    → file ≡ ended (save_start o.version o.head o.filter o.objects) ++ rest → ⊥

-- the journal opens with the lines of another save, and ends, by these, at that number, which is
-- above that of the save
pub record OpensAbove (told journal : Option (List ℕ)) (number : ℕ) : Type 0 where
  pub opening : Opening
  pub opens : OpensJournal (bytes_of journal) opening
  pub ends : number ≡ (head_said opening).number
  pub other : OpensNone told opening
  pub above : IsBelow told number

-- it opens so at no number
abbrev pub OpensNoOther : Option (List ℕ) → Option (List ℕ) → Type 0
OpensNoOther told journal = (number : ℕ) → OpensAbove told journal number → ⊥

-- why it isn't read which head they come to: a journal is judged by its first lines alone
abbrev pub HeadsStop : Option (List ℕ) → Option (List ℕ) → KeptFault → Type 0
HeadsStop told journal JournalTooLarge = ⊥
HeadsStop told journal (OtherJournal number) = OpensAbove told journal number
HeadsStop told journal fault = EndsStop told journal fault

-- the journal isn't too large
abbrev pub IsOfFirstLines : KeptFault → Type 0
IsOfFirstLines JournalTooLarge = ⊥
IsOfFirstLines fault = Unit {0}

-- the device is the reason
abbrev pub IsDeviceFault : KeptFault → Type 0
IsDeviceFault JournalFailed = Unit {0}
IsDeviceFault SaveFailed = Unit {0}
IsDeviceFault fault = ⊥

-- the journal is read first: if that failed, no call was left, and if the save failed, at most one
abbrev pub LacksCalls : KeptFault → Option ℕ → Type 0
LacksCalls JournalFailed left = HasFewer 1 left
LacksCalls SaveFailed left = HasFewer 2 left
LacksCalls fault left = Unit {0}
