-- The limits of change files and of data files: those of a batch, and those of the objects of a mirror.
use Rattle.std.proofs.Common.{◌≡◌, ◌+◌, ◌<◌, ◌≤◌, List, [], ◌∷◌, ◌++◌, length, map, refl, arith, inl, inr, ◌⊎◌, None}
use Rattle.std.specs.List.{AllByRecursion}
use Rattle.std.specs.List.Sorted.{IsStrictlySortedBy}
use Rattle.std.specs.declared.cmp.Ordering.{Ordering}
use Rattle.std.specs.declared.cmp.Ordering.TheVariants.{Less, Equal, Greater}
use Rattle.std.proofs.lemmas.Bool.{cases_lt}
use Rattle.std.proofs.lemmas.List.{length-append}
use Rattle.osm_model.specs.Batch.{IsBatch}
use Rattle.osm_model.specs.Change.{ChangeValue, IsChange}
use Rattle.osm_model.specs.Content.{object_after}
use Rattle.osm_model.specs.Data.{AreBelow, IsData, IsLeft, IsNext}
use Rattle.osm_model.specs.KeyOrder.{key_cmp}
use Rattle.osm_model.specs.Limits.{max_changes}
use Rattle.osm_model.specs.declared.kind.Key.{Key}
use Rattle.osm_model.specs.declared.change.What.{What}
use Rattle.osm_model.specs.declared.change.What.TheVariants as whats
use Rattle.osm_model.proofs.DataLemmas.{all_then, below_of, left_of, next_of, no_objects}
use Rattle.osm_model.specs.Files.{AreLimits}

-- whether one change more is within the limits
abbrev pub AreSettled : (List ChangeValue → Type 0) → Type 0
AreSettled Limits = (xs : List ChangeValue) (c : ChangeValue) → Limits xs → IsChange c
    → Limits (xs ++ c ∷ []) ⊎ (Limits (xs ++ c ∷ []) → ⊥)

all_first : {X : Type 0} (P : X → Type 0) (xs ys : List X) → AllByRecursion P (xs ++ ys) → AllByRecursion P xs
all_first P [] ys all = tt
all_first P (x ∷ xs) ys all = (all.0, all_first P xs ys all.1)

-- ---- a batch

pub batch_next : (changes : List ChangeValue) (c : ChangeValue) → IsBatch changes → IsChange c → length changes < max_changes
    → IsBatch (changes ++ c ∷ [])
batch_next changes c right is lt = record {
  few = let l = length-append changes (c ∷ []) in omega (arith, l, lt);
  each = all_then IsChange changes c right.each is;
}

pub batch_full : (changes : List ChangeValue) (c : ChangeValue) → max_changes ≤ length changes → IsBatch (changes ++ c ∷ []) → ⊥
batch_full changes c full batch =
    let few : length (changes ++ c ∷ []) ≤ max_changes = batch.few in
    let l : length (changes ++ c ∷ []) ≡ length changes + 1 = length-append changes (c ∷ []) in
    omega (arith, few, l, full)

batch_first : (xs ys : List ChangeValue) → IsBatch (xs ++ ys) → IsBatch xs
batch_first xs ys batch = record {
  few =
      let few : length (xs ++ ys) ≤ max_changes = batch.few in
      let l : length (xs ++ ys) ≡ length xs + length ys = length-append xs ys in
      omega (arith, few, l);
  each = all_first IsChange xs ys batch.each;
}

pub batch_limits : AreLimits IsBatch
batch_limits = record { none = record { few = omega arith; each = tt }; first = batch_first }

pub batch_settled : AreSettled IsBatch
batch_settled changes c right is =
    elim (cases_lt (length changes) max_changes) [
      | inl lt ↦ inl (batch_next changes c right is lt)
      | inr full ↦ inr (batch_full changes c full)
    ]

-- ---- data

keys_first : (k : Key) (os ps : List ChangeValue)
    → AllByRecursion (λ y. key_cmp k y ≡ Less) (map (λ (o : ChangeValue). o.key) (os ++ ps))
    → AllByRecursion (λ y. key_cmp k y ≡ Less) (map (λ (o : ChangeValue). o.key) os)
keys_first k [] ps all = tt
keys_first k (o ∷ os) ps all = (all.0, keys_first k os ps all.1)

rising_first : (os ps : List ChangeValue) → IsStrictlySortedBy key_cmp (map (λ (o : ChangeValue). o.key) (os ++ ps))
    → IsStrictlySortedBy key_cmp (map (λ (o : ChangeValue). o.key) os)
unfolding IsStrictlySortedBy
rising_first [] ps rising = tt
rising_first (o ∷ os) ps rising = (keys_first o.key os ps rising.0, rising_first os ps rising.1)

data_first : (os ps : List ChangeValue) → IsData (os ++ ps) → IsData os
data_first os ps right = record {
  limits = all_first IsChange os ps right.limits;
  left = all_first IsLeft os ps right.left;
  rising = rising_first os ps right.rising;
}

pub data_limits : AreLimits IsData
data_limits = record { none = no_objects; first = data_first }

left_or_not : (c : ChangeValue) → IsLeft c ⊎ (IsLeft c → ⊥)
left_or_not c = by_what c.what refl
  where
    by_what : (what : What) → c.what ≡ what → IsLeft c ⊎ (IsLeft c → ⊥)
    by_what whats.Deleted e = inr (λ left. let gone : object_after c ≡ None = rw e refl in absurd cc)
    by_what (whats.Node lon lat tags) e = inl (rw e refl)
    by_what (whats.Way refs tags) e = inl (rw e refl)
    by_what (whats.Relation members tags) e = inl (rw e refl)

less_or_not : (o : Ordering) → (o ≡ Less) ⊎ (o ≡ Less → ⊥)
less_or_not Less = inl refl
less_or_not Equal = inr (λ e. absurd cc)
less_or_not Greater = inr (λ e. absurd cc)

below_or_not : (os : List ChangeValue) (k : Key) → AreBelow os k ⊎ (AreBelow os k → ⊥)
below_or_not [] k = inl tt
below_or_not (o ∷ os) k = by_both (less_or_not (key_cmp o.key k)) (below_or_not os k)
  where
    by_both : (key_cmp o.key k ≡ Less) ⊎ (key_cmp o.key k ≡ Less → ⊥) → AreBelow os k ⊎ (AreBelow os k → ⊥)
        → AreBelow (o ∷ os) k ⊎ (AreBelow (o ∷ os) k → ⊥)
    by_both (inl less) (inl below) = inl (less, below)
    by_both (inl less) (inr not) = inr (λ all. not all.1)
    by_both (inr not) rest = inr (λ all. not all.0)

pub data_settled : AreSettled IsData
data_settled os c right is = by_both (left_or_not c) (below_or_not os c.key)
  where
    by_both : IsLeft c ⊎ (IsLeft c → ⊥) → AreBelow os c.key ⊎ (AreBelow os c.key → ⊥) → IsNext os c ⊎ (IsNext os c → ⊥)
    by_both (inl left) (inl below) = inl (next_of os c right is left below)
    by_both (inl left) (inr not) = inr (λ next. not (below_of os c next.rising))
    by_both (inr not) rest = inr (λ next. not (left_of os c next))
