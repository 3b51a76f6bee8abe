-- What a save and its journal keep together. `told` and `journal` are what the two files hold, none
-- if there is no such file.
use Rattle.std.specs.Prelude.{◌≡◌, ℕ, ◌+◌, ◌⊎◌, List, [], ◌∷◌, ◌++◌, Option, Some, None}
use Rattle.osm_model.specs.Change.{ChangeValue}
use Rattle.osm_mirror.specs.Mirror.{Applies}
use Rattle.osm_o5c.specs.File.{SpellsO5c}
use Rattle.osm_save.specs.Lines.{ended}
use Rattle.osm_save.specs.Save.{SpellsSave}
use Rattle.osm_save.specs.declared.save.Saved.{Saved}
use Rattle.osm_journal.specs.Journal.{BatchValue, JournalValue, SpellsJournal, save_start}

-- the first lines of the save that a journal belongs to
abbrev pub start_of : JournalValue → List ℕ
start_of j = ended (save_start j.version j.head j.kept_by j.objects)

-- the save begins, byte for byte, with the lines that the journal has of it
pub record BelongsTo (j : JournalValue) (told : Option (List ℕ)) : Type 0 where
  pub file : List ℕ
  pub there : told ≡ Some file
  pub rest : List ℕ
  pub begins : file ≡ start_of j ++ rest

-- the bytes are a journal of another save
pub record IsOfAnother (told : Option (List ℕ)) (bytes : List ℕ) : Type 0 where
  pub value : JournalValue
  pub spells : SpellsJournal bytes value
  pub other : BelongsTo value told → ⊥

-- the journal says nothing: there is no such file, it is empty, or it is one of another save
abbrev pub IsNoJournal : Option (List ℕ) → Option (List ℕ) → Type 0
IsNoJournal told None = Unit {0}
IsNoJournal told (Some bytes) = (bytes ≡ []) ⊎ IsOfAnother told bytes

-- the journal counts: it is one of that save
pub record HasJournal (told journal : Option (List ℕ)) (j : JournalValue) : Type 0 where
  pub bytes : List ℕ
  pub there : journal ≡ Some bytes
  pub spells : SpellsJournal bytes j
  pub belongs : BelongsTo j told

-- the batches of a journal that counts; none if it says nothing
abbrev pub AreBatchesIn : Option (List ℕ) → Option (List ℕ) → List BatchValue → Type 0
AreBatchesIn told journal batches =
    (IsNoJournal told journal × (batches ≡ []))
    ⊎ ((j : JournalValue) × HasJournal told journal j × (batches ≡ j.batches))

-- the change files of the batches spell the changes, one after the other
abbrev pub SpellChanges : List BatchValue → List ChangeValue → Type 0
SpellChanges [] changes = changes ≡ []
SpellChanges (b ∷ bs) changes = (first : List ChangeValue) × (rest : List ChangeValue)
    × SpellsO5c b.bytes first × SpellChanges bs rest × (changes ≡ first ++ rest)

-- the next number's changes, which the batch spells, are applied under the filter, which stays
pub record AddsBatch (b : BatchValue) (old new : Saved) : Type 0 where
  pub changes : List ChangeValue
  pub spells : SpellsO5c b.bytes changes
  pub number_is : b.number ≡ old.number + 1
  pub applied : Applies old.filter old.mirror changes new.mirror
  pub number : new.number ≡ b.number
  pub base : new.base ≡ old.base
  pub same_filter : new.filter ≡ old.filter
  pub time : new.time ≡ Some b.time

-- those of the batches are applied, one after the other
abbrev pub AddsBatches : List BatchValue → Saved → Saved → Type 0
AddsBatches [] old new = new ≡ old
AddsBatches (b ∷ bs) old new =
    (between : Saved) × AddsBatch b old between × AddsBatches bs between new

-- what is saved stays if the journal says nothing, or else the batches of the journal are applied
abbrev pub ComesTo : Option (List ℕ) → Option (List ℕ) → Saved → Saved → Type 0
ComesTo told journal start v =
    (IsNoJournal told journal × (v ≡ start))
    ⊎ ((j : JournalValue) × HasJournal told journal j × AddsBatches j.batches start v)

-- what the two files keep: what the save saves, and after it the batches of a journal that counts
pub record Keeps (told journal : Option (List ℕ)) (v : Saved) : Type 0 where
  pub file : List ℕ
  pub there : told ≡ Some file
  pub start : Saved
  pub spells : SpellsSave file start
  pub comes : ComesTo told journal start v
