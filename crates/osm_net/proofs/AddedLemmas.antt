-- Increments added to counts: how the merge goes on from its first increment and its first count, and what it gives.
use Rattle.std.proofs.Common.{◌≡◌, ℕ, ◌+◌, ◌<◌, ◌≤◌, List, [], ◌∷◌, length, refl, ap, subst, ◌∙◌, Option, Some, None, arith}
use Rattle.std.specs.Prelude.{unwrap_or}
use Rattle.std.specs.BTreeMap.{is_at}
use Rattle.std.specs.List.{AllByRecursion}
use Rattle.std.specs.List.Sorted.{IsStrictlySortedBy}
use Rattle.std.specs.Map.{keys_of, lookup}
use Rattle.std.specs.Ordering.{match_ordering, nat_cmp}
use Rattle.std.specs.declared.cmp.Ordering.{Ordering}
use Rattle.std.specs.declared.cmp.Ordering.TheVariants.{Less, Equal, Greater}
use Rattle.std.proofs.lemmas.Cmp.{nat_cmp_total}
use Rattle.std.proofs.lemmas.Option.{same_Some}
use Rattle.osm_mirror.specs.Mirror.{AreCountsAboveZero, Counted, HasNumber, IsAboveZero, count_at}
use Rattle.osm_net.specs.Laid.{added, added_one}
use Rattle.osm_net.proofs.MergeLemmas.{all_merged, by_rank, joined, merged, merged_at, merged_rises, ranks_alike, step}
use Rattle.osm_mirror.proofs.SameLemmas.{numbers_are}

-- ---- the merge, step by step

-- without increments all counts stay
pub added-no_increment : (cs : List Counted) → added [] cs ≡ cs
unfolding added
added-no_increment cs = refl

-- without counts each increment is one
pub added-no_count : (ms : List Counted) → added ms [] ≡ ms
unfolding added added_one
added-no_count [] = refl
added-no_count (m ∷ ms) = ap (λ (cs : List Counted). m ∷ cs) (added-no_count ms)

-- by the order of the first increment's number and the first count's
pub added-step : (m : Counted) (ms : List Counted) (c : Counted) (cs : List Counted) → added (m ∷ ms) (c ∷ cs)
    ≡ match_ordering (nat_cmp m.0 c.0) (m ∷ added ms (c ∷ cs)) ((c.0, m.1 + c.1) ∷ added ms cs) (c ∷ added (m ∷ ms) cs)
unfolding added added_one
added-step m ms c cs = refl

abbrev by_order : Counted → List Counted → Counted → List Counted → Ordering → List Counted
by_order m ms c cs o = match_ordering o (m ∷ added ms (c ∷ cs)) ((c.0, m.1 + c.1) ∷ added ms cs) (c ∷ added (m ∷ ms) cs)

-- the increment's number is below the count's: it is a new count
pub added-below : (m : Counted) (ms : List Counted) (c : Counted) (cs : List Counted) → nat_cmp m.0 c.0 ≡ Less
    → added (m ∷ ms) (c ∷ cs) ≡ m ∷ added ms (c ∷ cs)
added-below m ms c cs less = added-step m ms c cs ∙ ap (by_order m ms c cs) less

-- they are equal: the count grows
pub added-at : (m : Counted) (ms : List Counted) (c : Counted) (cs : List Counted) → nat_cmp m.0 c.0 ≡ Equal
    → added (m ∷ ms) (c ∷ cs) ≡ (c.0, m.1 + c.1) ∷ added ms cs
added-at m ms c cs equal = added-step m ms c cs ∙ ap (by_order m ms c cs) equal

-- the increment's number is above the count's: the count stays
pub added-above : (m : Counted) (ms : List Counted) (c : Counted) (cs : List Counted) → nat_cmp m.0 c.0 ≡ Greater
    → added (m ∷ ms) (c ∷ cs) ≡ c ∷ added (m ∷ ms) cs
added-above m ms c cs greater = added-step m ms c cs ∙ ap (by_order m ms c cs) greater

-- ---- the merge of entries that it is

abbrev fresh : ℕ → Option ℕ
fresh more = Some more

abbrev sum_of : ℕ → ℕ → Option ℕ
sum_of more n = Some (more + n)

abbrev summed : List Counted → List Counted → List Counted
summed ms cs = merged nat_cmp fresh sum_of ms cs

one_is : (m : Counted) (ms : List Counted) → ((cs : List Counted) → added ms cs ≡ summed ms cs) → (cs : List Counted)
    → added_one m (added ms) cs ≡ step nat_cmp fresh sum_of m (summed ms) cs
unfolding added_one
one_is m ms ih [] = ap (λ (rest : List Counted). m ∷ rest) (ih [])
one_is m ms ih (c ∷ cs) = ranks_alike (λ (ds : List Counted). ds) (nat_cmp m.0 c.0)
    (m ∷ added ms (c ∷ cs)) ((c.0, m.1 + c.1) ∷ added ms cs) (c ∷ added_one m (added ms) cs)
    (m ∷ summed ms (c ∷ cs)) ((c.0, m.1 + c.1) ∷ summed ms cs) (c ∷ step nat_cmp fresh sum_of m (summed ms) cs)
    (λ less. ap (λ (rest : List Counted). m ∷ rest) (ih (c ∷ cs)))
    (λ same. ap (λ (rest : List Counted). (c.0, m.1 + c.1) ∷ rest) (ih cs))
    (λ greater. ap (λ (rest : List Counted). c ∷ rest) (one_is m ms ih cs))

added_is : (ms cs : List Counted) → added ms cs ≡ summed ms cs
unfolding added
added_is [] cs = refl
added_is (m ∷ ms) cs = one_is m ms (added_is ms) cs

-- ---- what it gives

numbers_rise : (cs : List Counted) → AreCountsAboveZero cs → IsStrictlySortedBy nat_cmp (keys_of cs)
numbers_rise cs r = rw (← numbers_are cs) r.rising

joined_is : (o p : Option ℕ) → unwrap_or (joined nat_cmp fresh sum_of nat_cmp_total o p) 0 ≡ unwrap_or p 0 + unwrap_or o 0
joined_is None None = omega arith
joined_is None (Some n) = omega arith
joined_is (Some m) None = omega arith
joined_is (Some m) (Some n) = omega arith

-- at each number it has the sum of both
pub added_at : (ms cs : List Counted) (n : ℕ) → AreCountsAboveZero ms → AreCountsAboveZero cs → count_at (added ms cs) n ≡ count_at cs n + count_at ms n
added_at ms cs n r s =
    ap (λ (ds : List Counted). count_at ds n) (added_is ms cs)
    ∙ (ap (λ (o : Option ℕ). unwrap_or o 0) (merged_at nat_cmp fresh sum_of nat_cmp_total n ms cs (numbers_rise ms r) (numbers_rise cs s))
    ∙ joined_is (lookup (is_at (nat_cmp n)) ms) (lookup (is_at (nat_cmp n)) cs))

added_above : (ms cs : List Counted) → AllByRecursion IsAboveZero ms → AllByRecursion IsAboveZero cs → AllByRecursion IsAboveZero (summed ms cs)
added_above = all_merged nat_cmp fresh sum_of IsAboveZero IsAboveZero
    (λ e n q is. let same : e.1 ≡ n = same_Some e.1 n is in subst (λ (k : ℕ). 0 < k) same q)
    (λ e c n q p is. let same : e.1 + c.1 ≡ n = same_Some (e.1 + c.1) n is in omega (arith, q))

pub added_counts : (ms cs : List Counted) → AreCountsAboveZero ms → AreCountsAboveZero cs → AreCountsAboveZero (added ms cs)
added_counts ms cs r s = record {
  rising = rw (numbers_are (added ms cs), added_is ms cs)
      (merged_rises nat_cmp fresh sum_of nat_cmp_total ms cs (numbers_rise ms r) (numbers_rise cs s));
  above = rw (added_is ms cs) (added_above ms cs r.above s.above);
}

pub added_numbers : (ms cs : List Counted) → AllByRecursion HasNumber ms → AllByRecursion HasNumber cs → AllByRecursion HasNumber (added ms cs)
added_numbers ms cs qs ps = rw (added_is ms cs)
    (all_merged nat_cmp fresh sum_of HasNumber HasNumber (λ e n q is. q) (λ e c n q p is. p) ms cs qs ps)

-- no more counts than both have
added_one-length : (m : Counted) (ms : List Counted) → ((cs : List Counted) → length (added ms cs) ≤ length cs + length ms)
    → (cs : List Counted) → length (added_one m (added ms) cs) ≤ length cs + length (m ∷ ms)
unfolding added_one
added_one-length m ms ih [] = let h = ih [] in omega (arith, h)
added_one-length m ms ih (c ∷ cs) =
    let below = ih (c ∷ cs) in
    let at = ih cs in
    let above = added_one-length m ms ih cs in
    by_rank (λ (ds : List Counted). length ds ≤ length (c ∷ cs) + length (m ∷ ms)) (nat_cmp m.0 c.0)
    (m ∷ added ms (c ∷ cs)) ((c.0, m.1 + c.1) ∷ added ms cs) (c ∷ added_one m (added ms) cs)
    (λ _. omega (arith, below)) (λ _. omega (arith, at)) (λ _. omega (arith, above))

pub added-length : (ms cs : List Counted) → length (added ms cs) ≤ length cs + length ms
unfolding added
added-length [] cs = omega arith
added-length (m ∷ ms) cs = added_one-length m ms (added-length ms) cs
