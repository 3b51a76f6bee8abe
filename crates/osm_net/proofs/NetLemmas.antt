-- Net changes after one list of changes and then another, and the laws of net changes.
use Rattle.std.proofs.Common.{◌≡◌, ℕ, ◌+◌, List, [], ◌∷◌, ◌++◌, refl, ap, sym, ◌∙◌, subst, Bool, true, false, Option, Some, None}
use Rattle.std.proofs.Common.{arith}
use Rattle.std.specs.Prelude.{unwrap_or}
use Rattle.std.specs.BTreeMap.{insert_entry}
use Rattle.std.specs.List.{AllByRecursion}
use Rattle.std.specs.Option.{option_map}
use Rattle.std.specs.Ordering.{match_ordering, nat_cmp}
use Rattle.std.specs.declared.cmp.Ordering.{Ordering}
use Rattle.std.specs.declared.cmp.Ordering.TheVariants.{Less, Equal, Greater}
use Rattle.osm_model.specs.Change.{ChangeValue, IsChange}
use Rattle.osm_model.specs.Content.{last_of, later_of, over_at}
use Rattle.osm_model.specs.Filter.{FilterValue, keeps, left_by}
use Rattle.osm_model.specs.KeyOrder.{key_cmp}
use Rattle.osm_model.specs.declared.kind.Key.{Key}
use Rattle.osm_model.proofs.ContentLemmas.{edits_by_changeset-append, edits_by_user-append, last_of-append, one_key}
use Rattle.osm_model.proofs.FilterLemmas.{left_by-dropped, left_by-kept, object_after-kept}
use Rattle.osm_mirror.specs.Mirror.{count_at, object_at}
use Rattle.osm_mirror.proofs.MirrorLaws.{stays_kept}
use Rattle.osm_mirror.proofs.MirrorLemmas.{edits_by_changeset-most, edits_by_user-most, rising-nil}
use Rattle.osm_net.specs.Laid.{added, laid_on, laid_over}
use Rattle.osm_net.specs.Net.{HasOwnKey, IsNetOf, LeavesObject, NetEntry, NetValue, Takes, WidensBy, net_at, taken_at}
use Rattle.osm_net.specs.NetLaws.{AppliedIsLaid, CountsAreFew, HaveRoom, NetsApply, NoneChangesNothing, NothingIsNone, OneIsApplied}
use Rattle.osm_net.specs.NetLaws.{StaysKeptBy, StaysMirror, StaysOrderly}
use Rattle.osm_net.specs.Steps.Entries.{AreEntries}
use Rattle.osm_net.proofs.AddedLemmas.{added_at, added_counts, added_numbers}
use Rattle.osm_net.proofs.LaidLemmas.{laid_at, laid_objects, laid_rises}
use Rattle.osm_mirror.proofs.SameLemmas.{same_counts, same_objects}

-- ---- taking changes

-- what holds of all entries of a map, and of one that is put into it
module _ {K X : Type 0} (cmp : K → K → Ordering) (one : (a b : K) → cmp a b ≡ Equal → a ≡ b) (P : K × X → Type 0) where
  pub all-insert_entry : (es : List (K × X)) (k : K) (z : X) → P (k, z) → AllByRecursion P es → AllByRecursion P (insert_entry cmp es k z)
  all-insert_entry [] k z is all = (is, tt)
  all-insert_entry (e ∷ es) k z is all = by_order (cmp k e.0) refl (all-insert_entry es k z is all.1)
    where
      by_order : (o : Ordering) → cmp k e.0 ≡ o → AllByRecursion P (insert_entry cmp es k z)
          → AllByRecursion P (match_ordering o ((k, z) ∷ e ∷ es) ((e.0, z) ∷ es) (e ∷ insert_entry cmp es k z))
      by_order Less o rest = (is, all)
      by_order Equal o rest = (subst (λ (q : K). P (q, z)) (one k e.0 o) is, all.1)
      by_order Greater o rest = (all.0, rest)

-- what the filter keeps of what a change leaves is under the key of the change, and an object within the limits
left_as : (f : FilterValue) (c : ChangeValue) → IsChange c → (HasOwnKey (c.key, left_by f c)) × LeavesObject (c.key, left_by f c)
left_as f c limits = by_kept (keeps f c) refl
  where
    by_kept : (b : Bool) → keeps f c ≡ b → (HasOwnKey (c.key, left_by f c)) × LeavesObject (c.key, left_by f c)
    by_kept true is = rw (left_by-kept f c is) (refl, record { limits = limits; is_left = object_after-kept f c is })
    by_kept false is = rw (left_by-dropped f c is) (tt, tt)

pub left_own : (f : FilterValue) (c : ChangeValue) → IsChange c → HasOwnKey (c.key, left_by f c)
left_own f c limits = (left_as f c limits).0

pub entries_put : (es : List NetEntry) (k : Key) (z : Option ChangeValue) → HasOwnKey (k, z) → LeavesObject (k, z) → AreEntries es
    → AreEntries (insert_entry key_cmp es k z)
entries_put es k z own left all = record {
  own = all-insert_entry key_cmp one_key HasOwnKey es k z own all.own;
  each = all-insert_entry key_cmp one_key LeavesObject es k z left all.each;
}

pub taken_at-later_of : (f : FilterValue) (before : Option (Option ChangeValue)) (x y : Option ChangeValue)
    → taken_at f (taken_at f before x) y ≡ taken_at f before (later_of x y)
taken_at-later_of f before x None = refl
taken_at-later_of f before x (Some c) = refl

pub Takes-append : (f : FilterValue) (a b c : NetValue) (xs ys : List ChangeValue) → Takes f a xs b → Takes f b ys c → Takes f a (xs ++ ys) c
Takes-append f a b c xs ys h g = record {
  orderly = g.orderly;
  objects = λ k. g.objects k ∙ (ap (λ (o : Option (Option ChangeValue)). taken_at f o (last_of ys k)) (h.objects k)
      ∙ (taken_at-later_of f (net_at a.objects k) (last_of xs k) (last_of ys k)
      ∙ ap (taken_at f (net_at a.objects k)) (sym (last_of-append xs ys k))));
  users = λ uid. (let p = h.users uid in let q = g.users uid in let r = edits_by_user-append xs ys uid in omega arith);
  changesets = λ id. (let p = h.changesets id in let q = g.changesets id in let r = edits_by_changeset-append xs ys id in omega arith);
}

taken_map : (f : FilterValue) (x y : Option ChangeValue) → taken_at f (option_map (left_by f) x) y ≡ option_map (left_by f) (later_of x y)
taken_map f x None = refl
taken_map f x (Some c) = refl

-- net changes of some changes, with more taken, are those of them all
pub net_grown : (f : FilterValue) (a b : NetValue) (xs ys : List ChangeValue) → Takes f a ys b → IsNetOf f xs a → IsNetOf f (xs ++ ys) b
net_grown f a b xs ys t n = record {
  orderly = t.orderly;
  objects = λ k. t.objects k ∙ (ap (λ (o : Option (Option ChangeValue)). taken_at f o (last_of ys k)) (n.objects k)
      ∙ (taken_map f (last_of xs k) (last_of ys k) ∙ ap (option_map (left_by f)) (sym (last_of-append xs ys k))));
  users = λ uid. (let p = t.users uid in let q = n.users uid in let r = edits_by_user-append xs ys uid in omega arith);
  changesets = λ id. (let p = t.changesets id in let q = n.changesets id in let r = edits_by_changeset-append xs ys id in omega arith);
}

-- users and changesets after one list of changes and then another
pub widens_more : (a b c : NetValue) (n more total : ℕ) → WidensBy n a b → WidensBy more b c → total ≡ n + more → WidensBy total a c
widens_more a b c n more total f g is =
    let fu = f.users in
    let fs = f.changesets in
    let gu = g.users in
    let gs = g.changesets in
    record { users = omega arith; changesets = omega arith }

-- ---- the laws

pub stays_orderly : StaysOrderly
stays_orderly n m a b = record {
  objects = laid_rises n.objects m.objects a.rising a.own b.objects;
  users = added_counts n.users m.users a.users b.users;
  changesets = added_counts n.changesets m.changesets a.changesets b.changesets;
}

over_is : (f : FilterValue) (before o : Option ChangeValue) → unwrap_or (option_map (left_by f) o) before ≡ over_at (left_by f) before o
over_is f before None = refl
over_is f before (Some c) = refl

pub nets_apply : NetsApply
nets_apply f changes n m orderly net = record {
  orderly = stays_orderly n m net.orderly orderly;
  objects = λ k. laid_at n.objects m.objects k net.orderly.rising net.orderly.own orderly.objects
      ∙ (ap (λ (o : Option (Option ChangeValue)). unwrap_or o (object_at m.objects k)) (net.objects k)
      ∙ over_is f (object_at m.objects k) (last_of changes k));
  users = λ uid. added_at n.users m.users uid net.orderly.users orderly.users
      ∙ ap (λ (more : ℕ). count_at m.users uid + more) (net.users uid);
  changesets = λ id. added_at n.changesets m.changesets id net.orderly.changesets orderly.changesets
      ∙ ap (λ (more : ℕ). count_at m.changesets id + more) (net.changesets id);
}

pub one_is_applied : OneIsApplied
one_is_applied f changes m a b x y =
    let objects : a.objects ≡ b.objects = same_objects a.objects b.objects x.orderly.objects y.orderly.objects (λ k. x.objects k ∙ sym (y.objects k)) in
    let users : a.users ≡ b.users = same_counts a.users b.users x.orderly.users y.orderly.users (λ uid. x.users uid ∙ sym (y.users uid)) in
    let changesets : a.changesets ≡ b.changesets =
    same_counts a.changesets b.changesets x.orderly.changesets y.orderly.changesets (λ id. x.changesets id ∙ sym (y.changesets id)) in
    λ i. record { objects = objects i; users = users i; changesets = changesets i }

pub applied_is_laid : AppliedIsLaid
applied_is_laid f changes n a b orderly net applied =
    one_is_applied f changes a b (laid_on n a) applied (nets_apply f changes n a orderly net)

pub nothing_is_none : NothingIsNone
nothing_is_none f = record {
  orderly = record {
    rising = rising-nil key_cmp;
    own = tt;
    users = record { rising = rising-nil nat_cmp; above = tt };
    changesets = record { rising = rising-nil nat_cmp; above = tt };
  };
  objects = λ k. refl;
  users = λ uid. refl;
  changesets = λ id. refl;
}

pub none_changes_nothing : NoneChangesNothing
unfolding laid_over added
none_changes_nothing m = refl

pub stays_mirror : StaysMirror
stays_mirror n m a b = record {
  orderly = stays_orderly n m a.orderly b.orderly;
  objects = laid_objects n.objects m.objects a.orderly.own a.objects b.objects;
  users = added_numbers n.users m.users a.users b.users;
  changesets = added_numbers n.changesets m.changesets a.changesets b.changesets;
}

pub stays_kept_by : StaysKeptBy
stays_kept_by f changes n m orderly net kept = stays_kept f m (laid_on n m) changes kept (nets_apply f changes n m orderly net)

pub counts_are_few : CountsAreFew
counts_are_few f changes n net = record {
  users = λ uid. (let p = net.users uid in let q = edits_by_user-most changes uid in omega arith);
  changesets = λ id. (let p = net.changesets id in let q = edits_by_changeset-most changes id in omega arith);
}

pub have_room : HaveRoom
have_room f changes n more net below =
    let few = counts_are_few f changes n net in
    record {
      users = λ uid. (let p = few.users uid in omega arith);
      changesets = λ id. (let p = few.changesets id in omega arith);
    }
