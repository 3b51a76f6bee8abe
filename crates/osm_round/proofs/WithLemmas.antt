-- Net changes with changes after them: what is at each key, that there is only one such, and what they are after others.
use Rattle.std.proofs.Common.{◌≡◌, ℕ, ◌+◌, List, [], ◌∷◌, ◌++◌, length, refl, sym, ap, ◌∙◌, subst, Bool, true, false, Option, Some, None, arith}
use Rattle.std.specs.Prelude.{◌==◌, if◌then◌else◌}
use Rattle.std.specs.BTreeMap.{insert_entry}
use Rattle.std.specs.List.{AllByRecursion}
use Rattle.std.specs.List.Sorted.{IsStrictlySortedBy}
use Rattle.std.specs.Map.{keys_of}
use Rattle.std.specs.Ordering.{match_ordering, nat_cmp}
use Rattle.osm_model.specs.Change.{ChangeValue, IsChange}
use Rattle.osm_model.specs.Content.{edits_by_changeset, edits_by_user, last_of, later_of}
use Rattle.osm_model.specs.Filter.{FilterValue, left_by}
use Rattle.osm_model.specs.KeyOrder.{key_cmp, same_key}
use Rattle.osm_model.specs.declared.kind.Key.{Key}
use Rattle.osm_model.proofs.ContentLemmas.{edits_by_changeset-append, edits_by_user-append, last_of-append, one_key}
use Rattle.osm_model.proofs.DataLemmas.{keys_total}
use Rattle.osm_mirror.specs.Mirror.{AreCountsAboveZero, Counted, count_at}
use Rattle.osm_net.specs.Laid.{added}
use Rattle.osm_net.specs.Net.{AreKeysRising, HasOwnKey, IsJoined, IsOrderlyNet, NetEntry, NetValue, Takes, WidensBy, joined_at, net_at, taken_at}
use Rattle.osm_net.proofs.AddedLemmas.{added-length, added_at, added_counts}
use Rattle.osm_net.proofs.JoinedLemmas.{count_at-first}
use Rattle.osm_net.proofs.KindLemmas.{put_at}
use Rattle.osm_net.proofs.MergeLemmas.{merged, merged_rises}
use Rattle.osm_net.proofs.NetLemmas.{all-insert_entry, left_own, taken_at-later_of}
use Rattle.osm_mirror.proofs.SameLemmas.{same_counts, same_entries}
use Rattle.osm_round.specs.News.{net_after, net_with}

-- ---- one change more

-- an entry that is put among others is merged with them
abbrev put_fresh : Option ChangeValue → Option (Option ChangeValue)
put_fresh z = Some z

abbrev put_over : Option ChangeValue → Option ChangeValue → Option (Option ChangeValue)
put_over z old = Some z

put_is : (es : List NetEntry) (k : Key) (z : Option ChangeValue) → insert_entry key_cmp es k z ≡ merged key_cmp put_fresh put_over ((k, z) ∷ []) es
put_is [] k z = refl
put_is (e ∷ es) k z = ap (λ (ds : List NetEntry). match_ordering (key_cmp k e.0) ((k, z) ∷ e ∷ es) ((e.0, z) ∷ es) (e ∷ ds)) (put_is es k z)

-- one entry alone, and one count alone
one_rises : (k : Key) (z : Option ChangeValue) → AreKeysRising ((k, z) ∷ [])
unfolding IsStrictlySortedBy
one_rises k z = (tt, tt)

put_rises : (es : List NetEntry) (k : Key) (z : Option ChangeValue) → AreKeysRising es → AreKeysRising (insert_entry key_cmp es k z)
put_rises es k z r = subst AreKeysRising (sym (put_is es k z)) (merged_rises key_cmp put_fresh put_over keys_total ((k, z) ∷ []) es (one_rises k z) r)

one_number : (n : ℕ) → IsStrictlySortedBy nat_cmp (keys_of {X = ℕ} ((n, 1) ∷ []))
unfolding IsStrictlySortedBy
one_number n = (tt, tt)

one_count : (n : ℕ) → AreCountsAboveZero ((n, 1) ∷ [])
one_count n = record { rising = one_number n; above = (omega arith, tt) }

counted_once : (counts : List Counted) (n k : ℕ) → AreCountsAboveZero counts
    → count_at (added ((n, 1) ∷ []) counts) k ≡ count_at counts k + (if n == k then 1 else 0)
counted_once counts n k above =
    let sum = added_at ((n, 1) ∷ []) counts k (one_count n) above in
    let one : count_at ((n, 1) ∷ []) k ≡ count_at [] k + (if n == k then 1 else 0) = count_at-first (n, 1) [] (one_number n) k in
    let none : count_at [] k ≡ 0 = refl in
    omega (arith, sum, one, none)

-- the keys and the numbers rise, and no count is 0
record IsListed (n : NetValue) : Type 0 where
  rising : AreKeysRising n.objects
  users : AreCountsAboveZero n.users
  changesets : AreCountsAboveZero n.changesets

-- what net changes with changes after them are, whatever keys those leave
record IsWith (f : FilterValue) (a : NetValue) (cs : List ChangeValue) (b : NetValue) : Type 0 where
  listed : IsListed b
  objects : (k : Key) → net_at b.objects k ≡ taken_at f (net_at a.objects k) (last_of cs k)
  users : (uid : ℕ) → count_at b.users uid ≡ count_at a.users uid + edits_by_user cs uid
  changesets : (id : ℕ) → count_at b.changesets id ≡ count_at a.changesets id + edits_by_changeset cs id

listed_is : (n : NetValue) → IsOrderlyNet n → IsListed n
listed_is n o = record { rising = o.rising; users = o.users; changesets = o.changesets }

with_one : (f : FilterValue) (n : NetValue) (c : ChangeValue) → IsListed n → IsWith f n (c ∷ []) (net_after f n c)
with_one f n c is = record {
  listed = record {
    rising = put_rises n.objects c.key (left_by f c) is.rising;
    users = added_counts ((c.meta.uid, 1) ∷ []) n.users (one_count c.meta.uid) is.users;
    changesets = added_counts ((c.meta.changeset, 1) ∷ []) n.changesets (one_count c.meta.changeset) is.changesets;
  };
  objects = λ k. put_at c.key (left_by f c) n.objects k ∙ by_test (net_at n.objects k) (same_key c.key k);
  users = λ uid. (let one = counted_once n.users c.meta.uid uid is.users in omega (arith, one));
  changesets = λ id. (let one = counted_once n.changesets c.meta.changeset id is.changesets in omega (arith, one));
}
  where
    by_test : (before : Option (Option ChangeValue)) (b : Bool)
        → (if b then Some (left_by f c) else before) ≡ taken_at f before (if b then Some c else None)
    by_test before true = refl
    by_test before false = refl

with_both : (f : FilterValue) (a b d : NetValue) (xs ys : List ChangeValue) → IsWith f a xs b → IsWith f b ys d → IsWith f a (xs ++ ys) d
with_both f a b d xs ys h g = record {
  listed = g.listed;
  objects = λ k. g.objects k ∙ (ap (λ (o : Option (Option ChangeValue)). taken_at f o (last_of ys k)) (h.objects k)
      ∙ (taken_at-later_of f (net_at a.objects k) (last_of xs k) (last_of ys k)
      ∙ ap (taken_at f (net_at a.objects k)) (sym (last_of-append xs ys k))));
  users = λ uid. (let p = h.users uid in let q = g.users uid in let r = edits_by_user-append xs ys uid in omega (arith, p, q, r));
  changesets = λ id. (let p = h.changesets id in let q = g.changesets id in let r = edits_by_changeset-append xs ys id in omega (arith, p, q, r));
}

with_all : (f : FilterValue) (n : NetValue) (cs : List ChangeValue) → IsListed n → IsWith f n cs (net_with f n cs)
unfolding net_with
with_all f n [] is = record { listed = is; objects = λ k. refl; users = λ uid. omega arith; changesets = λ id. omega arith }
with_all f n (c ∷ cs) is =
    let one = with_one f n c is in
    with_both f n (net_after f n c) (net_with f (net_after f n c) cs) (c ∷ []) cs one (with_all f (net_after f n c) cs one.listed)

-- ---- changes that are taken

-- what takes changes is the net changes with them after it
pub takes_is : (f : FilterValue) (n m : NetValue) (cs : List ChangeValue) → IsOrderlyNet n → Takes f n cs m → m ≡ net_with f n cs
takes_is f n m cs orderly t =
    let w = with_all f n cs (listed_is n orderly) in
    let objects = same_entries key_cmp keys_total one_key m.objects (net_with f n cs).objects t.orderly.rising w.listed.rising
    (λ k. t.objects k ∙ sym (w.objects k)) in
    let users = same_counts m.users (net_with f n cs).users t.orderly.users w.listed.users (λ uid. t.users uid ∙ sym (w.users uid)) in
    let changesets = same_counts m.changesets (net_with f n cs).changesets t.orderly.changesets w.listed.changesets
    (λ id. t.changesets id ∙ sym (w.changesets id)) in
    λ i. record { objects = objects i; users = users i; changesets = changesets i }

own_with : (f : FilterValue) (n : NetValue) (cs : List ChangeValue) → AllByRecursion IsChange cs → AllByRecursion HasOwnKey n.objects
    → AllByRecursion HasOwnKey (net_with f n cs).objects
unfolding net_with
own_with f n [] each own = own
own_with f n (c ∷ cs) each own =
    own_with f (net_after f n c) cs each.1 (all-insert_entry key_cmp one_key HasOwnKey n.objects c.key (left_by f c) (left_own f c each.0) own)

-- the net changes with changes within the limits after them take these
pub with_takes : (f : FilterValue) (n : NetValue) (cs : List ChangeValue) → AllByRecursion IsChange cs → IsOrderlyNet n → Takes f n cs (net_with f n cs)
with_takes f n cs each orderly =
    let w = with_all f n cs (listed_is n orderly) in
    record {
      orderly = record {
        rising = w.listed.rising;
        own = own_with f n cs each orderly.own;
        users = w.listed.users;
        changesets = w.listed.changesets;
      };
      objects = w.objects;
      users = w.users;
      changesets = w.changesets;
    }

-- changes after others
pub with_append : (f : FilterValue) (n : NetValue) (xs ys : List ChangeValue) → net_with f n (xs ++ ys) ≡ net_with f (net_with f n xs) ys
unfolding net_with
with_append f n [] ys = refl
with_append f n (x ∷ xs) ys = with_append f (net_after f n x) xs ys

pub with_none : (f : FilterValue) (n : NetValue) → net_with f n [] ≡ n
unfolding net_with
with_none f n = refl

-- each change brings one user and one changeset at most
pub with_widens : (f : FilterValue) (n : NetValue) (cs : List ChangeValue) → WidensBy (length cs) n (net_with f n cs)
unfolding net_with
with_widens f n [] = record { users = omega arith; changesets = omega arith }
with_widens f n (c ∷ cs) =
    let rest = with_widens f (net_after f n c) cs in
    let u = added-length ((c.meta.uid, 1) ∷ []) n.users in
    let s = added-length ((c.meta.changeset, 1) ∷ []) n.changesets in
    let p = rest.users in
    let q = rest.changesets in
    record { users = omega (arith, u, p); changesets = omega (arith, s, q) }

-- net changes after others, and changes after both
joined_taken : (f : FilterValue) (x y : Option (Option ChangeValue)) (o : Option ChangeValue)
    → taken_at f (joined_at x y) o ≡ joined_at x (taken_at f y o)
joined_taken f x y None = refl
joined_taken f x y (Some c) = refl

pub joined_takes : (f : FilterValue) (a b c d : NetValue) (cs : List ChangeValue) → IsOrderlyNet b → IsJoined a b c → Takes f c cs d
    → IsJoined a (net_with f b cs) d
joined_takes f a b c d cs orderly j t =
    let w = with_all f b cs (listed_is b orderly) in
    record {
      orderly = t.orderly;
      objects = λ k. t.objects k ∙ (ap (λ (o : Option (Option ChangeValue)). taken_at f o (last_of cs k)) (j.objects k)
          ∙ (joined_taken f (net_at a.objects k) (net_at b.objects k) (last_of cs k) ∙ ap (joined_at (net_at a.objects k)) (sym (w.objects k))));
      users = λ uid. (let p = t.users uid in let q = j.users uid in let r = w.users uid in omega (arith, p, q, r));
      changesets = λ id. (let p = t.changesets id in let q = j.changesets id in let r = w.changesets id in omega (arith, p, q, r));
    }
