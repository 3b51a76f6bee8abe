-- What a run gathers of what it takes, for a journal: the batches of the numbers, with their
-- changes as o5c. `known` says that it is known what the files hold.
use Rattle.std.specs.Prelude.{◌≡◌, ℕ, ◌+◌, ◌<◌, ◌⊎◌, List, [], ◌∷◌, ◌++◌, length, map, Bool}
use Rattle.std.specs.Prelude.{true, false}
use Rattle.std.specs.List.{AllByRecursion}
use Rattle.osm_model.specs.Change.{ChangeValue}
use Rattle.osm_model.specs.Filter.{FilterValue}
use Rattle.osm_mirror.specs.Mirror.{IsOrderly}
use Rattle.osm_o5c.specs.Written.{o5c_text}
use Rattle.osm_save.specs.Head.{head_of}
use Rattle.osm_save.specs.declared.head.Head.{Head}
use Rattle.osm_save.specs.declared.save.Saved.{Saved}
use Rattle.osm_store.specs.Files.{Files}
use Rattle.osm_journal.specs.Journal.{BatchValue, Follow, IsBatch}
use Rattle.osm_kept.specs.Kept.{AddsBatches}
use Rattle.osm_runs.specs.Following.{HasFiles}
use Rattle.osm_round.specs.News.{TakenValue}
use Rattle.osm_round.specs.Putting.{saved_after}
use Rattle.osm_round.specs.declared.gathered.Gathered.{Gathered}
use Rattle.osm_round.specs.declared.gathered.Text.{Text}
use Rattle.osm_round.specs.declared.news.News.{News}

-- a sequence as a journal has it
abbrev pub batch_in : Text → BatchValue
batch_in t = record { number = t.number; time = t.time; bytes = t.bytes.items }

-- how many bytes the change files of batches have
abbrev pub total_of : List BatchValue → ℕ
total_of [] = 0
total_of (b ∷ bs) = length b.bytes + total_of bs

-- one more is kept, or there is no room for it
abbrev pub GrowsBy : BatchValue → Gathered → Gathered → Bool → Type 0
GrowsBy b old new true =
    (map batch_in new.texts.items ≡ map batch_in old.texts.items ++ b ∷ [])
    × (new.left + length b.bytes ≡ old.left)
GrowsBy b old new false = old.left < length b.bytes

-- the same, if all before it were kept, and else none is
abbrev pub GrowsFrom : BatchValue → Gathered → Gathered → Bool → Type 0
GrowsFrom b old new true = GrowsBy b old new new.is_whole
GrowsFrom b old new false = new.is_whole ≡ false

abbrev pub Grows : BatchValue → Gathered → Gathered → Type 0
Grows b old new = GrowsFrom b old new old.is_whole

-- the batch is that of a sequence of the folder: its bytes are the written text of the changes
pub record IsWritten (known : Type 0) (files : Files) (dir : List ℕ) (b : BatchValue) : Type 0 where
  pub changes : List ChangeValue
  pub text : b.bytes ≡ o5c_text changes
  pub there : known → HasFiles files dir (record {
    number = b.number;
    changes = changes;
    time = b.time;
  })

-- the batches come after that head, and lead from what has it to that with what was taken
pub record AreAfter (f : FilterValue) (start : Head) (taken : TakenValue)
    (batches : List BatchValue) : Type 0 where
  pub follow : Follow start.number batches
  pub number : taken.head.number ≡ start.number + length batches
  pub adds : (v : Saved) → head_of v ≡ start → v.filter ≡ f → IsOrderly v.mirror
      → AddsBatches batches v (saved_after v taken)

-- all batches are kept; or they have more bytes than that, or none were asked for
abbrev pub KeepsUpTo : ℕ → List BatchValue → Gathered → Bool → Type 0
KeepsUpTo most batches g true =
    (map batch_in g.texts.items ≡ batches) × AllByRecursion IsBatch batches
    × (total_of batches + g.left ≡ most)
KeepsUpTo most batches g false = (most < total_of batches) ⊎ (most ≡ 0)

-- so far nothing is gathered
abbrev pub IsBegunUpTo : ℕ → Gathered → Type 0
IsBegunUpTo most g = KeepsUpTo most [] g g.is_whole

-- changes are held only as long as all are gathered
abbrev pub HoldsGathered : News → Gathered → Type 0
HoldsGathered news g = g.is_whole ≡ false → news.held.items ≡ []

-- what is gathered of what was taken after that head
pub record Gathers (f : FilterValue) (start : Head) (most : ℕ) (taken : TakenValue) (g : Gathered)
    : Type 0 where
  pub batches : List BatchValue
  pub after : AreAfter f start taken batches
  pub keeps : KeepsUpTo most batches g g.is_whole

-- the same of a folder, whose sequences the batches are
pub record GathersIn (known : Type 0) (files : Files) (dir : List ℕ) (f : FilterValue)
    (start : Head) (most : ℕ) (taken : TakenValue) (g : Gathered) : Type 0 where
  pub gathers : Gathers f start most taken g
  pub written : AllByRecursion (IsWritten known files dir) gathers.batches
