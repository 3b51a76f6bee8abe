-- Objects by rising keys: when one more may follow.
use Rattle.std.proofs.Common.{◌≡◌, ℕ, zero, suc, ◌+◌, ◌-◌, List, [], ◌∷◌, ◌++◌, length, map, refl, Bool, true, false, Some, arith, slice_get}
use Rattle.std.specs.Bool.{IsTrue}
use Rattle.std.specs.Cmp.{IsTotalOrder}
use Rattle.std.specs.List.{AllByRecursion}
use Rattle.std.specs.List.Sorted.{IsStrictlySortedBy}
use Rattle.std.specs.Ordering.{is_lt}
use Rattle.std.specs.declared.cmp.Ordering.{Ordering}
use Rattle.std.proofs.lemmas.Cmp.{int_cmp_total, nat_cmp_total, on_total, then_total}
use Rattle.std.specs.declared.cmp.Ordering.TheVariants.{Less, Equal, Greater}
use Rattle.osm_model.specs.Change.{ChangeValue, IsChange}
use Rattle.osm_model.specs.Data.{AreBelow, IsData, IsLeft, IsNext}
use Rattle.osm_model.specs.KeyOrder.{key_cmp, kind_rank}
use Rattle.osm_model.specs.declared.kind.Key.{Key}

-- keys have a total order
pub keys_total : IsTotalOrder key_cmp
keys_total = then_total (on_total (λ k. kind_rank k.kind) nat_cmp_total) (on_total (λ k. k.id) int_cmp_total)

pub all_then : {X : Type 0} (P : X → Type 0) (xs : List X) (x : X) → AllByRecursion P xs → P x → AllByRecursion P (xs ++ x ∷ [])
all_then P [] x all p = (p, tt)
all_then P (y ∷ xs) x all p = (all.0, all_then P xs x all.1 p)

pub all_last : {X : Type 0} (P : X → Type 0) (xs : List X) (x : X) → AllByRecursion P (xs ++ x ∷ []) → P x
all_last P [] x all = all.0
all_last P (y ∷ xs) x all = all_last P xs x all.1

keys_then : (k : Key) (os : List ChangeValue) (c : ChangeValue) → AllByRecursion (λ y. key_cmp k y ≡ Less) (map (λ (o : ChangeValue). o.key) os)
    → key_cmp k c.key ≡ Less → AllByRecursion (λ y. key_cmp k y ≡ Less) (map (λ (o : ChangeValue). o.key) (os ++ c ∷ []))
keys_then k [] c all less = (less, tt)
keys_then k (o ∷ os) c all less = (all.0, keys_then k os c all.1 less)

keys_last : (k : Key) (os : List ChangeValue) (c : ChangeValue)
    → AllByRecursion (λ y. key_cmp k y ≡ Less) (map (λ (o : ChangeValue). o.key) (os ++ c ∷ [])) → key_cmp k c.key ≡ Less
keys_last k [] c all = all.0
keys_last k (o ∷ os) c all = keys_last k os c all.1

pub rising_then : (os : List ChangeValue) (c : ChangeValue) → IsStrictlySortedBy key_cmp (map (λ (o : ChangeValue). o.key) os)
    → AreBelow os c.key → IsStrictlySortedBy key_cmp (map (λ (o : ChangeValue). o.key) (os ++ c ∷ []))
unfolding IsStrictlySortedBy
rising_then [] c rising below = (tt, tt)
rising_then (o ∷ os) c rising below = (keys_then o.key os c rising.0 below.0, rising_then os c rising.1 below.1)

pub below_of : (os : List ChangeValue) (c : ChangeValue) → IsStrictlySortedBy key_cmp (map (λ (o : ChangeValue). o.key) (os ++ c ∷ []))
    → AreBelow os c.key
unfolding IsStrictlySortedBy
below_of [] c rising = tt
below_of (o ∷ os) c rising = (keys_last o.key os c rising.0, below_of os c rising.1)

pub no_objects : IsData []
unfolding IsStrictlySortedBy
no_objects = record { limits = tt; left = tt; rising = tt }

-- an object that isn't deleted and whose key is above all others may follow them, and no other may
pub next_of : (os : List ChangeValue) (c : ChangeValue) → IsData os → IsChange c → IsLeft c → AreBelow os c.key → IsNext os c
next_of os c right limits left below = record {
  limits = all_then IsChange os c right.limits limits;
  left = all_then IsLeft os c right.left left;
  rising = rising_then os c right.rising below;
}

pub left_of : (os : List ChangeValue) (c : ChangeValue) → IsNext os c → IsLeft c
left_of os c next = all_last IsLeft os c next.left

-- ---- the last key is the greatest

same_some : (a b : ChangeValue) → Some a ≡ Some b → a ≡ b
same_some a b e = cc

pub last_below : (os : List ChangeValue) (i : ℕ) (l : ChangeValue) (k : Key) → i + 1 ≡ length os
    → IsStrictlySortedBy key_cmp (map (λ (o : ChangeValue). o.key) os)
    → Some l ≡ slice_get os i → key_cmp l.key k ≡ Less → AreBelow os k
unfolding IsStrictlySortedBy
last_below [] i l k len rising e less = tt
last_below (o ∷ []) zero l k len rising e less = (rw (← same_some l o e) less, tt)
last_below (o ∷ []) (suc i) l k len rising e less = absurd (omega (arith, len))
last_below (o ∷ p ∷ os) zero l k len rising e less = absurd (omega (arith, len))
last_below (o ∷ p ∷ os) (suc i) l k len rising e less =
    let rest = last_below (p ∷ os) i l k (omega (arith, len)) rising.1 e less in
    (keys_total.trans o.key p.key k rising.0.0 rest.0, rest)

pub below_last : (os : List ChangeValue) (i : ℕ) (l : ChangeValue) (k : Key) → i + 1 ≡ length os
    → Some l ≡ slice_get os i → AreBelow os k → key_cmp l.key k ≡ Less
below_last [] i l k len e below = absurd (omega (arith, len))
below_last (o ∷ []) zero l k len e below = rw (same_some l o e) below.0
below_last (o ∷ []) (suc i) l k len e below = absurd (omega (arith, len))
below_last (o ∷ p ∷ os) zero l k len e below = absurd (omega (arith, len))
below_last (o ∷ p ∷ os) (suc i) l k len e below = below_last (p ∷ os) i l k (omega (arith, len)) e below.1

pub last_place : (os : List ChangeValue) (l : ChangeValue) → Some l ≡ slice_get os (length os - 1) → length os - 1 + 1 ≡ length os
last_place [] l e = absurd cc
last_place (o ∷ os) l e = omega arith

pub less_of : (o : Ordering) → IsTrue (is_lt o) → o ≡ Less
less_of Less t = refl
less_of Equal t = absurd cc
less_of Greater t = absurd cc

pub less_is : (o : Ordering) → o ≡ Less → IsTrue (is_lt o)
less_is o e = rw e refl

pub not_true : (b : Bool) → b ≡ false → IsTrue b → ⊥
not_true b e t = absurd cc

pub is_true : (b : Bool) → b ≡ true → IsTrue b
is_true b e = e
