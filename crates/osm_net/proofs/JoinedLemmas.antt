-- Net changes after others: what they come to together, and how they are laid over a mirror.
use Rattle.std.proofs.Common.{◌≡◌, ℕ, ◌+◌, ◌≤◌, List, ◌∷◌, length, refl, ap, sym, ◌∙◌, subst, Bool, true, false, Option, Some, None, ⊎_elim, arith}
use Rattle.std.specs.Prelude.{IsSome, ◌<◌, ◌==◌, ◌^◌, if◌then◌else◌, unwrap_or}
use Rattle.std.specs.BTreeMap.{is_at}
use Rattle.std.specs.List.{AllByRecursion}
use Rattle.std.specs.List.Sorted.{IsStrictlySortedBy}
use Rattle.std.specs.Map.{keys_of}
use Rattle.std.specs.Option.{option_map}
use Rattle.std.specs.Cmp.{tied_itself}
use Rattle.std.specs.Ordering.{is_eq, nat_cmp}
use Rattle.std.specs.declared.cmp.Ordering.{Ordering}
use Rattle.std.specs.declared.cmp.Ordering.TheVariants.{Less, Equal, Greater}
use Rattle.std.proofs.lemmas.Bool.Decides.{eqb_tells}
use Rattle.std.proofs.lemmas.Cmp.{nat_cmp_total}
use Rattle.std.proofs.lemmas.Map.Lookups.{exact_unsigned}
use Rattle.std.proofs.lemmas.Map.Entries.{lookup_head, lookup_tail}
use Rattle.std.proofs.lemmas.Map.Keys.{sorted_tail}
use Rattle.osm_model.specs.Change.{ChangeValue}
use Rattle.osm_model.specs.Content.{last_of, later_of, over_at}
use Rattle.osm_model.specs.Filter.{FilterValue, left_by}
use Rattle.osm_model.specs.KeyOrder.{key_cmp, same_key}
use Rattle.osm_model.specs.declared.kind.Key.{Key}
use Rattle.osm_model.proofs.ContentLemmas.{edits_by_changeset-append, edits_by_user-append, last_of-append, same_key-only, same_key-refl}
use Rattle.osm_model.proofs.DataLemmas.{keys_total}
use Rattle.osm_mirror.specs.Mirror.{AreCountsAboveZero, Applies, Counted, HasNumber, IsAboveZero, IsOrderly, MirrorValue, count_at, object_at}
use Rattle.osm_net.specs.Laid.{added, laid_on, laid_over}
use Rattle.osm_net.specs.Net.{AreKeysRising, HasNewKey, HasNewNumber, HasOwnKey, IsJoined, IsNetOf, IsOrderlyNet, LeavesObject, NetEntry, NetValue}
use Rattle.osm_net.specs.Net.{Takes, WidensBy, joined_at, net_at, no_net, taken_at}
use Rattle.osm_net.specs.NetLaws.{HaveRoomForAll, JoinedApplies, JoinedIsLaid, NetsJoin}
use Rattle.osm_net.proofs.AddedLemmas.{added-length, added_at, added_counts}
use Rattle.osm_net.proofs.LaidLemmas.{laid_at}
use Rattle.osm_net.proofs.NetLemmas.{counts_are_few, nets_apply, stays_orderly}
use Rattle.osm_mirror.proofs.SameLemmas.{numbers_are, past_head, same_counts, same_objects}

-- ---- changes after others, laid over a mirror

object_over : (f : FilterValue) (x : Option (Option ChangeValue)) (y o : Option ChangeValue)
    → unwrap_or (taken_at f x y) o ≡ over_at (left_by f) (unwrap_or x o) y
object_over f x None o = refl
object_over f x (Some c) o = refl

-- net changes of some changes, with more taken, apply those to what the earlier ones give
pub applies_after : (f : FilterValue) (xs ys : List ChangeValue) (a b : NetValue) → IsNetOf f xs a → Takes f a ys b
    → (m : MirrorValue) → IsOrderly m → Applies f (laid_on a m) ys (laid_on b m)
applies_after f xs ys a b net t m orderly = record {
  orderly = stays_orderly b m t.orderly orderly;
  objects = λ k. laid_at b.objects m.objects k t.orderly.rising t.orderly.own orderly.objects
      ∙ (ap (λ (z : Option (Option ChangeValue)). unwrap_or z (object_at m.objects k)) (t.objects k)
      ∙ (object_over f (net_at a.objects k) (last_of ys k) (object_at m.objects k)
      ∙ ap (λ (o : Option ChangeValue). over_at (left_by f) o (last_of ys k))
      (sym (laid_at a.objects m.objects k net.orderly.rising net.orderly.own orderly.objects))));
  users = λ uid. (let p = added_at b.users m.users uid t.orderly.users orderly.users in
      let q = added_at a.users m.users uid net.orderly.users orderly.users in
      let r = t.users uid in
      omega (arith, p, q, r));
  changesets = λ id. (let p = added_at b.changesets m.changesets id t.orderly.changesets orderly.changesets in
      let q = added_at a.changesets m.changesets id net.orderly.changesets orderly.changesets in
      let r = t.changesets id in
      omega (arith, p, q, r));
}

-- ---- net changes after others

joined_map : (f : FilterValue) (x y : Option ChangeValue)
    → joined_at (option_map (left_by f) x) (option_map (left_by f) y) ≡ option_map (left_by f) (later_of x y)
joined_map f x None = refl
joined_map f x (Some c) = refl

pub nets_join : NetsJoin
nets_join f xs ys a b c p q j = record {
  orderly = j.orderly;
  objects = λ k. j.objects k ∙ ((λ i. joined_at (p.objects k i) (q.objects k i))
      ∙ (joined_map f (last_of xs k) (last_of ys k) ∙ ap (option_map (left_by f)) (sym (last_of-append xs ys k))));
  users = λ uid. (let s = j.users uid in let t = p.users uid in let u = q.users uid in let v = edits_by_user-append xs ys uid in omega (arith, s, t, u, v));
  changesets = λ id. (let s = j.changesets id in let t = p.changesets id in let u = q.changesets id in
      let v = edits_by_changeset-append xs ys id in omega (arith, s, t, u, v));
}

over_both : (x y : Option (Option ChangeValue)) (o : Option ChangeValue) → unwrap_or (joined_at x y) o ≡ unwrap_or y (unwrap_or x o)
over_both x None o = refl
over_both x (Some z) o = refl

laid_both : (a b c : NetValue) (m : MirrorValue) → IsOrderlyNet a → IsOrderlyNet b → IsJoined a b c → IsOrderly m
    → (k : Key) → object_at (laid_over c.objects m.objects) k ≡ object_at (laid_over b.objects (laid_over a.objects m.objects)) k
laid_both a b c m p q j orderly k =
    let first = stays_orderly a m p orderly in
    laid_at c.objects m.objects k j.orderly.rising j.orderly.own orderly.objects
    ∙ (ap (λ (z : Option (Option ChangeValue)). unwrap_or z (object_at m.objects k)) (j.objects k)
    ∙ (over_both (net_at a.objects k) (net_at b.objects k) (object_at m.objects k)
    ∙ (ap (unwrap_or (net_at b.objects k)) (sym (laid_at a.objects m.objects k p.rising p.own orderly.objects))
    ∙ sym (laid_at b.objects (laid_over a.objects m.objects) k q.rising q.own first.objects))))

-- sums of sums
added_both : (xs ys zs cs : List Counted) → AreCountsAboveZero xs → AreCountsAboveZero ys → AreCountsAboveZero zs → AreCountsAboveZero cs
    → ((n : ℕ) → count_at zs n ≡ count_at xs n + count_at ys n) → added zs cs ≡ added ys (added xs cs)
added_both xs ys zs cs p q r s sum =
    let first : AreCountsAboveZero (added xs cs) = added_counts xs cs p s in
    same_counts (added zs cs) (added ys (added xs cs)) (added_counts zs cs r s) (added_counts ys (added xs cs) q first)
    (λ n. (let t = added_at zs cs n r s in let u = added_at ys (added xs cs) n q first in let v = added_at xs cs n p s in let w = sum n in
    omega (arith, t, u, v, w)))

pub joined_is_laid : JoinedIsLaid
joined_is_laid a b c m p q j orderly =
    let first = stays_orderly a m p orderly in
    let whole = stays_orderly c m j.orderly orderly in
    let second = stays_orderly b (laid_on a m) q first in
    let objects : (laid_on c m).objects ≡ (laid_on b (laid_on a m)).objects =
    same_objects (laid_on c m).objects (laid_on b (laid_on a m)).objects whole.objects second.objects (laid_both a b c m p q j orderly) in
    let users : (laid_on c m).users ≡ (laid_on b (laid_on a m)).users =
    added_both a.users b.users c.users m.users p.users q.users j.orderly.users orderly.users j.users in
    let changesets : (laid_on c m).changesets ≡ (laid_on b (laid_on a m)).changesets =
    added_both a.changesets b.changesets c.changesets m.changesets p.changesets q.changesets j.orderly.changesets orderly.changesets j.changesets in
    λ i. record { objects = objects i; users = users i; changesets = changesets i }

pub joined_applies : JoinedApplies
joined_applies f changes a b c m p q j orderly =
    let is : laid_on c m ≡ laid_on b (laid_on a m) = joined_is_laid a b c m p q.orderly j orderly in
    subst (λ (n : MirrorValue). Applies f (laid_on a m) changes n) (sym is) (nets_apply f changes b (laid_on a m) (stays_orderly a m p orderly) q)

pub have_room_for_all : HaveRoomForAll
have_room_for_all f xs ys a b p q below =
    let few = counts_are_few f xs a p in
    let more = counts_are_few f ys b q in
    record {
      users = λ uid. (let s = few.users uid in let t = more.users uid in omega (arith, s, t, below));
      changesets = λ id. (let s = few.changesets id in let t = more.changesets id in omega (arith, s, t, below));
    }

-- after none, net changes are themselves
pub joined_none : (old later : NetValue) → old ≡ no_net → IsOrderlyNet later → IsJoined old later later
joined_none old later none orderly =
    subst (λ (n : NetValue). IsJoined n later later) (sym none) (record {
      orderly = orderly;
      objects = λ k. after_nothing (net_at later.objects k);
      users = λ uid. omega arith;
      changesets = λ id. omega arith;
    })
  where
    after_nothing : (x : Option (Option ChangeValue)) → x ≡ joined_at None x
    after_nothing None = refl
    after_nothing (Some left) = refl

-- ---- no more users and changesets than both have

counts_grown : (xs ys zs : List Counted) (most : ℕ) → AreCountsAboveZero xs → AreCountsAboveZero ys → AreCountsAboveZero zs
    → ((n : ℕ) → count_at zs n ≡ count_at xs n + count_at ys n) → length ys ≤ most → length zs ≤ length xs + most
counts_grown xs ys zs most p q r sum few =
    let same : zs ≡ added ys xs = same_counts zs (added ys xs) r (added_counts ys xs q p) (λ n. sum n ∙ sym (added_at ys xs n q p)) in
    let bound = added-length ys xs in
    rw same (omega (arith, bound, few))

pub joined_grown : (a b c : NetValue) → IsOrderlyNet a → IsOrderlyNet b → IsJoined a b c
    → (most : ℕ) → WidensBy most no_net b → WidensBy most a c
joined_grown a b c p q j most w = record {
  users = counts_grown a.users b.users c.users most p.users q.users j.orderly.users j.users (let few = w.users in omega (arith, few));
  changesets = counts_grown a.changesets b.changesets c.changesets most p.changesets q.changesets j.orderly.changesets j.changesets
      (let few = w.changesets in omega (arith, few));
}

-- ---- entries put after others, one by one

pub same_key-turned : (a b : Key) → same_key a b ≡ false → same_key b a ≡ false
same_key-turned a b other = by_test (same_key b a) refl
  where
    by_test : (t : Bool) → same_key b a ≡ t → same_key b a ≡ false
    by_test true is =
        let same : b ≡ a = same_key-only b a is in
        let yes : same_key a b ≡ true = subst (λ (k : Key). same_key a k ≡ true) (sym same) (same_key-refl a) in
        absurd (let bad : true ≡ false = sym yes ∙ other in cc)
    by_test false is = is

-- some of the later entries were put, and these are left: what both come to together stays, no entry is lost, and none is new
pub record ArePut (old later now left : List NetEntry) : Type 0 where
  pub rising : AreKeysRising left
  pub own : AllByRecursion HasOwnKey left
  pub objects : AllByRecursion LeavesObject left
  pub joined : (k : Key) → joined_at (net_at now k) (net_at left k) ≡ joined_at (net_at old k) (net_at later k)
  pub kept : (k : Key) → net_at now k ≡ None → net_at old k ≡ None
  pub among : (k : Key) → IsSome (net_at left k) → IsSome (net_at later k)

pub none_put : (old later : List NetEntry) → AreKeysRising later → AllByRecursion HasOwnKey later → AllByRecursion LeavesObject later
    → ArePut old later old later
none_put old later rising own objects =
    record { rising = rising; own = own; objects = objects; joined = λ k. refl; kept = λ k none. none; among = λ k some. some }

module _ (old later now new left : List NetEntry) (e : NetEntry) (p : ArePut old later now (e ∷ left))
    (put : (k : Key) → net_at new k ≡ (if same_key e.0 k then Some e.1 else net_at now k)) where
  at_head : net_at (e ∷ left) e.0 ≡ Some e.1
  at_head = lookup_head (is_at (key_cmp e.0)) e left (same_key-refl e.0)

  none_left : net_at left e.0 ≡ None
  none_left = past_head key_cmp keys_total e.0 e left p.rising (same_key-refl e.0)

  put_head : net_at new e.0 ≡ Some e.1
  put_head = put e.0 ∙ ap (λ (b : Bool). if b then Some e.1 else net_at now e.0) (same_key-refl e.0)

  put_tail : (k : Key) → same_key e.0 k ≡ false → net_at new k ≡ net_at now k
  put_tail k other = put k ∙ ap (λ (b : Bool). if b then Some e.1 else net_at now k) other

  left_tail : (k : Key) → same_key e.0 k ≡ false → net_at (e ∷ left) k ≡ net_at left k
  left_tail k other = lookup_tail (is_at (key_cmp k)) e left (same_key-turned e.0 k other)

  by_key : (P : Key → Type 0) → P e.0 → ((k : Key) → same_key e.0 k ≡ false → P k) → (k : Key) → P k
  by_key P here there k = by_test (same_key e.0 k) refl
    where
      by_test : (t : Bool) → same_key e.0 k ≡ t → P k
      by_test true is = subst P (same_key-only e.0 k is) here
      by_test false is = there k is

  joined_head : joined_at (net_at new e.0) (net_at left e.0) ≡ joined_at (net_at old e.0) (net_at later e.0)
  joined_head = ap (joined_at (net_at new e.0)) none_left ∙ (put_head ∙ (ap (joined_at (net_at now e.0)) (sym at_head) ∙ p.joined e.0))

  joined_tail : (k : Key) → same_key e.0 k ≡ false → joined_at (net_at new k) (net_at left k) ≡ joined_at (net_at old k) (net_at later k)
  joined_tail k other = (λ i. joined_at (put_tail k other i) (sym (left_tail k other) i)) ∙ p.joined k

  pub one_put : ArePut old later new left
  one_put = record {
    rising = sorted_tail key_cmp e.0 (keys_of left) p.rising;
    own = p.own.1;
    objects = p.objects.1;
    joined = by_key (λ (k : Key). joined_at (net_at new k) (net_at left k) ≡ joined_at (net_at old k) (net_at later k)) joined_head joined_tail;
    kept = by_key (λ (k : Key). net_at new k ≡ None → net_at old k ≡ None)
        (λ none. absurd (let bad : None ≡ Some e.1 = sym none ∙ put_head in cc)) (λ k other none. p.kept k (sym (put_tail k other) ∙ none));
    among = by_key (λ (k : Key). IsSome (net_at left k) → IsSome (net_at later k))
        (λ some. absurd (let bad : false ≡ true = subst IsSome none_left some in cc))
        (λ k other some. p.among k (subst IsSome (sym (left_tail k other)) some));
  }

  pub new_put : net_at now e.0 ≡ None → HasNewKey old later
  new_put none = record { key = e.0; new = p.kept e.0 none; there = p.among e.0 (subst IsSome (sym at_head) refl) }

-- ---- counts added to counts, one by one

-- some of the counts were added, and these are left
pub record AreAdded (old more now left : List Counted) : Type 0 where
  pub rising : IsStrictlySortedBy nat_cmp (keys_of left)
  pub above : AllByRecursion IsAboveZero left
  pub numbers : AllByRecursion HasNumber left
  pub sum : (n : ℕ) → count_at now n + count_at left n ≡ count_at old n + count_at more n
  pub kept : (n : ℕ) → count_at old n ≤ count_at now n
  pub among : (n : ℕ) → count_at left n ≤ count_at more n

pub none_added : (old more : List Counted) → AreCountsAboveZero more → AllByRecursion HasNumber more → AreAdded old more old more
none_added old more counts numbers = record {
  rising = rw (← numbers_are more) counts.rising;
  above = counts.above;
  numbers = numbers;
  sum = λ n. refl;
  kept = λ n. omega arith;
  among = λ n. omega arith;
}

module _ (m : Counted) (left : List Counted) (rising : IsStrictlySortedBy nat_cmp (keys_of (m ∷ left))) where
  at_first : count_at (m ∷ left) m.0 ≡ m.1
  at_first = ap (λ (o : Option ℕ). unwrap_or o 0) (lookup_head (is_at (nat_cmp m.0)) m left (ap is_eq (tied_itself nat_cmp_total m.0)))

  none_after : count_at left m.0 ≡ 0
  none_after = ap (λ (o : Option ℕ). unwrap_or o 0) (past_head nat_cmp nat_cmp_total m.0 m left rising (ap is_eq (tied_itself nat_cmp_total m.0)))

  at_other : (n : ℕ) → (m.0 ≡ n → ⊥) → count_at (m ∷ left) n ≡ count_at left n
  at_other n other = ap (λ (o : Option ℕ). unwrap_or o 0) (lookup_tail (is_at (nat_cmp n)) m left (by_test (is_eq (nat_cmp n m.0)) refl))
    where
      equal : (o : Ordering) → is_eq o ≡ true → o ≡ Equal
      equal Less e = absurd (cc)
      equal Equal e = refl
      equal Greater e = absurd (cc)

      by_test : (t : Bool) → is_eq (nat_cmp n m.0) ≡ t → is_eq (nat_cmp n m.0) ≡ false
      by_test true is = absurd (other (sym (exact_unsigned n m.0 (equal (nat_cmp n m.0) is))))
      by_test false is = is

  -- the first count, and those after it
  pub count_at-first : (n : ℕ) → count_at (m ∷ left) n ≡ count_at left n + (if m.0 == n then m.1 else 0)
  count_at-first n = ⊎_elim
      (λ same. (let here = at_first in let none = none_after in
      subst (λ (k : ℕ). count_at (m ∷ left) k ≡ count_at left k + (if m.0 == n then m.1 else 0)) same.1
      (subst (λ (t : Bool). count_at (m ∷ left) m.0 ≡ count_at left m.0 + (if t then m.1 else 0)) (sym same.0) (omega (arith, here, none)))))
      (λ other. (let there = at_other n other.1 in
      subst (λ (t : Bool). count_at (m ∷ left) n ≡ count_at left n + (if t then m.1 else 0)) (sym other.0) (omega (arith, there))))
      (eqb_tells m.0 n)

module _ (old more now new left : List Counted) (m : Counted) (p : AreAdded old more now (m ∷ left)) where
  pub one_added : ((n : ℕ) → count_at new n ≡ count_at now n + (if m.0 == n then m.1 else 0)) → AreAdded old more new left
  one_added adds = record {
    rising = sorted_tail nat_cmp m.0 (keys_of left) p.rising;
    above = p.above.1;
    numbers = p.numbers.1;
    sum = λ n. (let a = adds n in let b = count_at-first m left p.rising n in let c = p.sum n in omega (arith, a, b, c));
    kept = λ n. (let a = adds n in let c = p.kept n in omega (arith, a, c));
    among = λ n. (let b = count_at-first m left p.rising n in let c = p.among n in omega (arith, b, c));
  }

  pub room_for_one : ((n : ℕ) → count_at old n + count_at more n < 2 ^ 64) → count_at now m.0 + m.1 < 2 ^ 64
  room_for_one room =
      let a = at_first m left p.rising in let b = p.sum m.0 in let c = room m.0 in omega (arith, a, b, c)

  pub new_added : count_at now m.0 ≡ 0 → HasNewNumber old more
  new_added none =
      let a = at_first m left p.rising in let b = p.kept m.0 in let c = p.among m.0 in let d = p.above.0 in
      record { number = m.0; new = omega (arith, b, none); counted = omega (arith, a, c, d) }
