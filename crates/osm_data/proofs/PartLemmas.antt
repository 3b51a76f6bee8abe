-- Data in parts: the objects of a part are data, and the first of them follows those before.
use Rattle.std.proofs.Common.{◌≡◌, List, [], ◌∷◌, ◌++◌, map, Option, Some, None, refl}
use Rattle.std.specs.List.{AllByRecursion}
use Rattle.std.specs.List.Sorted.{IsStrictlySortedBy}
use Rattle.std.specs.declared.cmp.Ordering.TheVariants.{Less}
use Rattle.osm_model.specs.Change.{ChangeValue, IsChange}
use Rattle.osm_model.specs.Data.{IsData, IsLeft}
use Rattle.osm_model.specs.KeyOrder.{key_cmp}
use Rattle.osm_model.specs.declared.kind.Key.{Key}
use Rattle.osm_model.proofs.DataLemmas.{keys_total}
use Rattle.osm_data.specs.Steps.O5mReading.{Follows, IsPart, last_after}

abbrev keys_of : List ChangeValue → List Key
keys_of objects = map (λ (o : ChangeValue). o.key) objects

abbrev AreAbove : Key → List Key → Type 0
AreAbove k keys = AllByRecursion (λ y. key_cmp k y ≡ Less) keys

all_both : {X : Type 0} (P : X → Type 0) (xs ys : List X) → AllByRecursion P xs → AllByRecursion P ys → AllByRecursion P (xs ++ ys)
all_both P [] ys a b = b
all_both P (x ∷ xs) ys a b = (a.0, all_both P xs ys a.1 b)

all_after : {X : Type 0} (P : X → Type 0) (xs ys : List X) → AllByRecursion P (xs ++ ys) → AllByRecursion P ys
all_after P [] ys all = all
all_after P (x ∷ xs) ys all = all_after P xs ys all.1

above_more : (a b : Key) (keys : List Key) → key_cmp a b ≡ Less → AreAbove b keys → AreAbove a keys
above_more a b [] less all = tt
above_more a b (k ∷ keys) less all = (keys_total.trans a b k less all.0, above_more a b keys less all.1)

-- the keys that follow a last one are above it
follow_above : (k : Key) (xs : List ChangeValue) → IsStrictlySortedBy key_cmp (keys_of xs) → Follows (Some k) xs → AreAbove k (keys_of xs)
unfolding IsStrictlySortedBy
follow_above k [] rising follows = tt
follow_above k (x ∷ xs) rising follows = (follows, above_more k x.key (keys_of xs) follows rising.0)

above_both : (k : Key) (os xs : List ChangeValue) → AreAbove k (keys_of os) → AreAbove k (keys_of xs) → AreAbove k (keys_of (os ++ xs))
above_both k [] xs a b = b
above_both k (o ∷ os) xs a b = (a.0, above_both k os xs a.1 b)

above_last : (k : Key) (os xs : List ChangeValue) → AreAbove k (keys_of os) → IsStrictlySortedBy key_cmp (keys_of os)
    → IsStrictlySortedBy key_cmp (keys_of xs) → Follows (last_after (Some k) os) xs → AreAbove k (keys_of xs)
unfolding IsStrictlySortedBy
above_last k [] xs all own rising follows = follow_above k xs rising follows
above_last k (o ∷ os) xs all own rising follows =
    above_more k o.key (keys_of xs) all.0 (above_last o.key os xs own.0 own.1 rising follows)

rising_both : (last : Option Key) (os xs : List ChangeValue) → IsStrictlySortedBy key_cmp (keys_of os)
    → IsStrictlySortedBy key_cmp (keys_of xs) → Follows (last_after last os) xs → IsStrictlySortedBy key_cmp (keys_of (os ++ xs))
unfolding IsStrictlySortedBy
rising_both last [] xs a b follows = b
rising_both last (o ∷ os) xs a b follows =
    (above_both o.key os xs a.0 (above_last o.key os xs a.0 a.1 b follows), rising_both (Some o.key) os xs a.1 b follows)

pub joined : (done xs : List ChangeValue) → IsData done → IsPart (last_after None done) xs → IsData (done ++ xs)
joined done xs a p = record {
  limits = all_both IsChange done xs a.limits p.right.limits;
  left = all_both IsLeft done xs a.left p.right.left;
  rising = rising_both None done xs a.rising p.right.rising p.follows;
}

rising_after : (os xs : List ChangeValue) → IsStrictlySortedBy key_cmp (keys_of (os ++ xs)) → IsStrictlySortedBy key_cmp (keys_of xs)
unfolding IsStrictlySortedBy
rising_after [] xs r = r
rising_after (o ∷ os) xs r = rising_after os xs r.1

above_after : (k : Key) (os xs : List ChangeValue) → AreAbove k (keys_of (os ++ xs)) → AreAbove k (keys_of xs)
above_after k [] xs all = all
above_after k (o ∷ os) xs all = above_after k os xs all.1

follows_above : (k : Key) (xs : List ChangeValue) → AreAbove k (keys_of xs) → Follows (Some k) xs
follows_above k [] all = tt
follows_above k (x ∷ xs) all = all.0

follows_of : (o : ChangeValue) (os xs : List ChangeValue) → IsStrictlySortedBy key_cmp (keys_of (o ∷ os ++ xs)) → Follows (last_after (Some o.key) os) xs
unfolding IsStrictlySortedBy
follows_of o [] xs r = follows_above o.key xs r.0
follows_of o (p ∷ os) xs r = follows_of p os xs r.1

pub parted : (done xs : List ChangeValue) → IsData (done ++ xs) → IsPart (last_after None done) xs
parted done xs d = record {
  right = record {
    limits = all_after IsChange done xs d.limits;
    left = all_after IsLeft done xs d.left;
    rising = rising_after done xs d.rising;
  };
  follows = by_done done d.rising;
}
  where
    by_done : (done : List ChangeValue) → IsStrictlySortedBy key_cmp (keys_of (done ++ xs)) → Follows (last_after None done) xs
    by_done [] r = tt
    by_done (o ∷ os) r = follows_of o os xs r

pub last_both : (last : Option Key) (os xs : List ChangeValue) → last_after last (os ++ xs) ≡ last_after (last_after last os) xs
last_both last [] xs = refl
last_both last (o ∷ os) xs = last_both (Some o.key) os xs
