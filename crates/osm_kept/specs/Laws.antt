-- Laws of saves with journals.
use Rattle.std.specs.Prelude.{◌≡◌, ℕ, ◌≤◌, ◌↔◌, List, [], ◌∷◌, ◌++◌, length, Option, Some, None}
use Rattle.osm_save.specs.Head.{head_of}
use Rattle.osm_save.specs.Save.{IsSavable, SpellsSave, save_text}
use Rattle.osm_save.specs.declared.save.Saved.{Saved}
use Rattle.osm_save.specs.declared.version.Version.{Version}
use Rattle.osm_journal.specs.Journal.{BatchValue, IsBatch, IsJournal, JournalValue, SpellsJournal}
use Rattle.osm_journal.specs.Journal.{journal_text}
use Rattle.osm_kept.specs.Kept.{AddsBatch, AddsBatches, BelongsTo, HasJournal, IsNoJournal}
use Rattle.osm_kept.specs.Finding.{bytes_of}
use Rattle.osm_kept.specs.Kept.{Keeps}
use Rattle.osm_kept.specs.Refusal.{HasNoOther, IsAt, IsBadJournal, IsOlder, IsOther, OpensAbove}

-- two files keep at most one thing
abbrev pub OneIsKept : Type 0
OneIsKept = (told journal : Option (List ℕ)) (a b : Saved)
    → Keeps told journal a → Keeps told journal b → a ≡ b

-- an empty journal and none keep the same
abbrev pub EmptyIsNone : Type 0
EmptyIsNone = (told : Option (List ℕ)) (v : Saved)
    → Keeps told (Some []) v ↔ Keeps told None v

-- without a journal, or beside one of another save, what the save saves is kept
abbrev pub SavedIsKept : Type 0
SavedIsKept = (file : List ℕ) (journal : Option (List ℕ)) (v : Saved)
    → SpellsSave file v → IsNoJournal (Some file) journal → Keeps (Some file) journal v

-- of a journal that is bad nothing is kept
abbrev pub BadKeepsNothing : Type 0
BadKeepsNothing = (told journal : Option (List ℕ)) (line : ℕ) (v : Saved)
    → IsBadJournal told journal line → Keeps told journal v → ⊥

-- the batches of a journal of a save, as its text has them, are applied to what is saved
abbrev pub JournalIsApplied : Type 0
JournalIsApplied = (file : List ℕ) (j : JournalValue) (v w : Saved)
    → SpellsSave file v → IsJournal j → BelongsTo j (Some file) → AddsBatches j.batches v w
    → Keeps (Some file) (Some (journal_text j)) w

-- the journal with one more batch
abbrev pub with_batch : JournalValue → BatchValue → JournalValue
with_batch j b = record {
  version = j.version;
  head = j.head;
  kept_by = j.kept_by;
  objects = j.objects;
  batches = j.batches ++ b ∷ [];
}

-- one more batch at the end of a journal that counts is applied to what was kept
abbrev pub MoreIsAdded : Type 0
MoreIsAdded = (told journal : Option (List ℕ)) (j : JournalValue) (b : BatchValue) (v w : Saved)
    → HasJournal told journal j → Keeps told journal v → IsBatch b → AddsBatch b v w
    → Keeps told (Some (journal_text (with_batch j b))) w

-- the journal of a save of that version with one batch
abbrev pub first_journal : Version → Saved → BatchValue → JournalValue
first_journal version v b = record {
  version = version;
  head = head_of v;
  kept_by = v.filter;
  objects = length v.mirror.objects;
  batches = b ∷ [];
}

-- a first batch beside a save is applied to what is saved
abbrev pub FirstIsAdded : Type 0
FirstIsAdded = (version : Version) (b : BatchValue) (v w : Saved)
    → IsSavable version v → IsBatch b → AddsBatch b v w
    → Keeps (Some (save_text version v)) (Some (journal_text (first_journal version v b))) w

-- once what is kept is saved, alone or with more numbers after it, the journal is one of another
-- save: the same is kept whether it is still there or not
abbrev pub MergedIsKept : Type 0
MergedIsKept = (told journal : Option (List ℕ)) (j : JournalValue) (v w : Saved) (file : List ℕ)
    → HasJournal told journal j → Keeps told journal v → v.number ≤ w.number → SpellsSave file w
    → Keeps (Some file) journal w

-- a journal of another save that is emptied leaves what was kept, and so does one that is empty or
-- isn't there
abbrev pub EmptiedIsKept : Type 0
EmptiedIsKept = (told journal : Option (List ℕ)) (v : Saved)
    → IsNoJournal told journal → Keeps told journal v → Keeps told (Some []) v

-- ---- journals of other saves that end above the save

-- a file has one number at most, and a save text has that of what it saves
abbrev pub OneIsAt : Type 0
OneIsAt = (told : Option (List ℕ)) (m n : ℕ) → IsAt told m → IsAt told n → m ≡ n

abbrev pub SavedIsAt : Type 0
SavedIsAt = (file : List ℕ) (v : Saved) → SpellsSave file v → IsAt (Some file) v.number

-- a journal ends at one number
abbrev pub OneIsOther : Type 0
OneIsOther = (told journal : Option (List ℕ)) (m n : ℕ)
    → IsOther told journal m → IsOther told journal n → m ≡ n

-- none is one that counts, one that doesn't end above, or an empty one
abbrev pub OwnIsNoOther : Type 0
OwnIsNoOther = (told journal : Option (List ℕ)) (j : JournalValue)
    → HasJournal told journal j → HasNoOther told journal

abbrev pub OlderIsNoOther : Type 0
OlderIsNoOther = (told journal : Option (List ℕ))
    → IsOlder told (bytes_of journal) → HasNoOther told journal

abbrev pub EmptyIsNoOther : Type 0
EmptyIsNoOther = (told journal : Option (List ℕ))
    → bytes_of journal ≡ [] → HasNoOther told journal

-- a journal that doesn't end above says nothing, and it stays so beside every save that isn't below
abbrev pub OlderSaysNothing : Type 0
OlderSaysNothing = (told journal : Option (List ℕ))
    → IsOlder told (bytes_of journal) → IsNoJournal told journal

abbrev pub OlderStays : Type 0
OlderStays = (told journal : Option (List ℕ)) (file : List ℕ) (w : Saved)
    → (older : IsOlder told (bytes_of journal)) → SpellsSave file w → older.at ≤ w.number
    → IsOlder (Some file) (bytes_of journal)

-- once what is kept is saved, alone or with more numbers after it, the journal that counted is one
-- that doesn't end above
abbrev pub MergedIsOlder : Type 0
MergedIsOlder = (told journal : Option (List ℕ)) (j : JournalValue) (v w : Saved) (file : List ℕ)
    → HasJournal told journal j → Keeps told journal v → v.number ≤ w.number → SpellsSave file w
    → IsOlder (Some file) (bytes_of journal)

-- what a journal opens with, it is
abbrev pub OpensAsOther : Type 0
OpensAsOther = (told journal : Option (List ℕ)) (number : ℕ) (bytes : List ℕ) (j : JournalValue)
    → OpensAbove told journal number → journal ≡ Some bytes → SpellsJournal bytes j
    → IsOther told journal number

-- and it is bad, if it isn't one of another save that ends above
abbrev pub OpensBad : Type 0
OpensBad = (told journal : Option (List ℕ)) (number line : ℕ)
    → OpensAbove told journal number → HasNoOther told journal → IsBadJournal told journal line
