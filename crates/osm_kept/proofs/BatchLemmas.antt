-- Batches that are taken one after the other.
use Rattle.std.proofs.Common.{◌≡◌, ℕ, zero, suc, ◌+◌, ◌<◌, ◌≤◌, List, [], ◌∷◌, ◌++◌, length, length-append, Option, Some}
use Rattle.std.proofs.Common.{map, take, drop, get_or, append-nil, append_assoc, arith, refl, sym, ap, subst, ◌∙◌}
use Rattle.std.specs.List.{AllByRecursion}
use Rattle.osm_model.specs.Change.{ChangeValue}
use Rattle.osm_model.specs.Filter.{FilterValue}
use Rattle.osm_model.specs.Limits.{max_changes, max_sequence}
use Rattle.osm_mirror.specs.Mirror.{IsOrderly}
use Rattle.osm_net.specs.Laid.{laid_on}
use Rattle.osm_net.specs.Net.{HasRoomFor, NetValue, no_net}
use Rattle.osm_net.proofs.JoinedLemmas.{applies_after}
use Rattle.osm_net.proofs.NetLemmas.{have_room, net_grown, none_changes_nothing, nothing_is_none, widens_more}
use Rattle.osm_o5c.specs.File.{SpellsO5c}
use Rattle.osm_save.specs.Save.{saved_with}
use Rattle.osm_save.specs.Head.{head_of}
use Rattle.osm_save.specs.declared.save.Saved.{Saved}
use Rattle.osm_journal.specs.Journal.{BatchValue, Follow, IsBatch, batch_of, last_number, last_time}
use Rattle.osm_journal.specs.declared.batch.Batch.{Batch}
use Rattle.osm_journal.proofs.BatchLemmas.{number_reached}
use Rattle.osm_kept.specs.Finding.{IsRightBatch}
use Rattle.osm_kept.specs.Kept.{AddsBatch, AddsBatches, SpellChanges}
use Rattle.osm_kept.specs.Reaching.{head_past}
use Rattle.osm_kept.specs.Steps.Taking.{BatchStops, BatchesStop, HasTaken, TakesBatch}
use Rattle.osm_kept.specs.declared.fault.KeptFault.{KeptFault}
use Rattle.osm_kept.specs.declared.fault.KeptFault.TheVariants.{BadJournal, WantOfMemory}

-- ---- lists

pub all_append : {X : Type 0} (P : X → Type 0) (xs ys : List X) → AllByRecursion P xs → AllByRecursion P ys → AllByRecursion P (xs ++ ys)
all_append P [] ys a b = b
all_append P (x ∷ xs) ys a b = (a.0, all_append P xs ys a.1 b)

pub all_at : {X : Type 0} (P : X → Type 0) (xs : List X) (x : X) (ys : List X) → AllByRecursion P (xs ++ x ∷ ys) → P x
all_at P [] x ys a = a.0
all_at P (y ∷ xs) x ys a = all_at P xs x ys a.1

-- the batches before one, that one and those after it
pub batches_split : (bs : List Batch) (i : ℕ) (d : Batch) → i < length bs
    → map batch_of bs ≡ map batch_of (take i bs) ++ batch_of (get_or bs i d) ∷ map batch_of (drop (suc i) bs)
batches_split [] i d lt = absurd (omega (arith, lt))
batches_split (b ∷ bs) zero d lt = refl
batches_split (b ∷ bs) (suc i) d lt = ap (λ (l : List BatchValue). batch_of b ∷ l) (batches_split bs i d (omega (arith, lt)))

pub follow_at : (number : ℕ) (xs : List BatchValue) (b : BatchValue) (ys : List BatchValue) → Follow number (xs ++ b ∷ ys)
    → b.number ≡ number + length xs + 1
follow_at number [] b ys f = let one = f.0 in omega (arith, one)
follow_at number (x ∷ xs) b ys f =
    let one = f.0 in
    let later = follow_at x.number xs b ys f.1 in
    omega (arith, one, later)

-- those before one more follow too
follow_front : (number : ℕ) (xs ys : List BatchValue) → Follow number (xs ++ ys) → Follow number xs
follow_front number [] ys f = tt
follow_front number (x ∷ xs) ys f = (f.0, follow_front x.number xs ys f.1)

-- the same of a list of batches as they are read
pub batch_limits : (bs : List Batch) (i : ℕ) (d : Batch) → i < length bs → AllByRecursion IsBatch (map batch_of bs) → IsBatch (batch_of (get_or bs i d))
batch_limits bs i d lt each =
    all_at IsBatch (map batch_of (take i bs)) (batch_of (get_or bs i d)) (map batch_of (drop (suc i) bs))
    (subst (λ (l : List BatchValue). AllByRecursion IsBatch l) (batches_split bs i d lt) each)

pub taken_count : (bs : List Batch) (i : ℕ) → i ≤ length bs → length (map batch_of (take i bs)) ≡ i
taken_count bs zero le = refl
taken_count [] (suc i) le = absurd (omega (arith, le))
taken_count (b ∷ bs) (suc i) le = let rest = taken_count bs i (omega (arith, le)) in omega (arith, rest)

-- ---- nothing, and one batch more

pub adds_more : (bs : List BatchValue) (b : BatchValue) (old between new : Saved) → AddsBatches bs old between → AddsBatch b between new
    → AddsBatches (bs ++ b ∷ []) old new
adds_more [] b old between new same one = (new, subst (λ (v : Saved). AddsBatch b v new) same one, refl)
adds_more (x ∷ xs) b old between new (middle, first, rest) one = (middle, first, adds_more xs b middle between new rest one)

spell_more : (bs : List BatchValue) (b : BatchValue) (xs ys : List ChangeValue) → SpellChanges bs xs → SpellsO5c b.bytes ys
    → SpellChanges (bs ++ b ∷ []) (xs ++ ys)
spell_more [] b xs ys none one = (ys, [], one, refl, ap (λ (l : List ChangeValue). l ++ ys) none ∙ sym (append-nil ys))
spell_more (x ∷ bs) b xs ys (first, rest, spells, more, same) one =
    (first, rest ++ ys, spells, spell_more bs b rest ys more one, ap (λ (l : List ChangeValue). l ++ ys) same ∙ append_assoc first rest ys)

pub takes_nothing : (f : FilterValue) → HasTaken f [] no_net
takes_nothing f = record {
  none = λ zero_is. refl;
  changes = [];
  spell = refl;
  few = omega arith;
  net_is = nothing_is_none f;
  widens = record { users = omega arith; changesets = omega arith };
  right = tt;
  adds = λ v follow filter_is orderly. rw (← filter_is, none_changes_nothing v.mirror) refl;
}

number_last : (number : ℕ) (bs : List BatchValue) (b : BatchValue) → last_number number (bs ++ b ∷ []) ≡ b.number
number_last number [] b = refl
number_last number (x ∷ xs) b = number_last x.number xs b

time_last : (time : Option ℕ) (bs : List BatchValue) (b : BatchValue) → last_time time (bs ++ b ∷ []) ≡ Some b.time
time_last time [] b = refl
time_last time (x ∷ xs) b = time_last (Some x.time) xs b

-- the next number's changes are applied to what is kept before
adds_next : (f : FilterValue) (bs : List BatchValue) (b : BatchValue) (old new : NetValue) → (has : HasTaken f bs old) → TakesBatch f b old new
    → (v : Saved) → Follow v.number (bs ++ b ∷ []) → IsOrderly v.mirror
    → AddsBatch b (saved_with (head_past (head_of v) bs) f (laid_on old v.mirror)) (saved_with (head_past (head_of v) (bs ++ b ∷ [])) f (laid_on new v.mirror))
adds_next f bs b old new has t v follow orderly = record {
  changes = t.changes;
  spells = t.spells;
  number_is = (let at = follow_at v.number bs b [] follow in
      let reached = number_reached bs v.number (follow_front v.number bs (b ∷ []) follow) in
      omega (arith, at, reached));
  applied = applies_after f has.changes t.changes old new has.net_is t.takes v.mirror orderly;
  number = number_last v.number bs b;
  base = refl;
  same_filter = refl;
  time = time_last v.time bs b;
}

pub takes_more : (f : FilterValue) (bs : List BatchValue) (b : BatchValue) (old new : NetValue) → HasTaken f bs old → TakesBatch f b old new
    → HasTaken f (bs ++ b ∷ []) new
takes_more f bs b old new has t =
    let count = length-append bs (b ∷ []) in
    let few = has.few in
    let limit = t.limits.few in
    record {
      none = λ zero_is. absurd (omega (arith, zero_is, count));
      changes = has.changes ++ t.changes;
      spell = spell_more bs b has.changes t.changes has.spell t.spells;
      few = (let sum = length-append has.changes t.changes in omega (arith, sum, few, limit, count));
      net_is = net_grown f old new has.changes t.changes t.takes has.net_is;
      widens = widens_more no_net old new (length has.changes) (length t.changes) (length (has.changes ++ t.changes)) has.widens t.widens
          (length-append has.changes t.changes);
      right = all_append IsRightBatch bs (b ∷ []) has.right (record { changes = t.changes; spells = t.spells }, tt);
      adds = λ v follow filter_is orderly. adds_more bs b v (saved_with (head_past (head_of v) bs) f (laid_on old v.mirror))
          (saved_with (head_past (head_of v) (bs ++ b ∷ [])) f (laid_on new v.mirror))
          (has.adds v (follow_front v.number bs (b ∷ []) follow) filter_is orderly) (adds_next f bs b old new has t v follow orderly);
    }

-- ---- limits

pub few_taken : (bs : List Batch) (i : ℕ) → i < length bs → length bs ≤ max_sequence → length (map batch_of (take i bs)) ≤ max_sequence
few_taken bs i lt most = let taken = taken_count bs i (omega (arith, lt)) in omega (arith, taken, lt, most)

pub room_for_more : (f : FilterValue) (bs : List BatchValue) (net : NetValue) → HasTaken f bs net → length bs ≤ max_sequence → HasRoomFor max_changes net
room_for_more f bs net has most =
    let few = has.few in
    have_room f has.changes net max_changes has.net_is (omega (arith, few, most))

-- ---- a batch that isn't taken

pub batches_stop : (first line : ℕ) (all before : List BatchValue) (bad : BatchValue) (after : List BatchValue) (fault : KeptFault)
    → all ≡ before ++ bad ∷ after → AllByRecursion IsRightBatch before → line ≡ first + length before → BatchStops line bad fault
    → BatchesStop first all fault
batches_stop first line all before bad after (BadJournal named) parts right at stops = record {
  before = before;
  bad = bad;
  after = after;
  parts = parts;
  right = right;
  none = stops.1;
  place = stops.0 ∙ at;
}
batches_stop first line all before bad after WantOfMemory parts right at stops = tt
batches_stop first line all before bad after fault parts right at stops = absurd stops
