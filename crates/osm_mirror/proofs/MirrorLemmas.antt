-- A mirror after one list of changes and then another.
use Rattle.std.proofs.Common.{◌≡◌, ℕ, ◌+◌, ◌≤◌, List, [], ◌∷◌, ◌++◌, length, refl, ap, sym, ◌∙◌, Option, arith, length-append}
use Rattle.std.proofs.lemmas.List.Sums.{count_by-le-length}
use Rattle.std.specs.List.Sorted.{IsStrictlySortedBy}
use Rattle.std.specs.Ordering.{nat_cmp}
use Rattle.std.specs.Prelude.{◌==◌}
use Rattle.std.specs.declared.cmp.Ordering.{Ordering}
use Rattle.osm_model.specs.Change.{ChangeValue}
use Rattle.osm_model.specs.Content.{content_of, nothing, object_after, over_at, last_of, edits_by_user, edits_by_changeset}
use Rattle.osm_model.specs.Filter.{FilterValue, kept_object, left_by}
use Rattle.osm_model.specs.KeyOrder.{key_cmp}
use Rattle.osm_model.proofs.ContentLemmas.{over-append, edits_by_user-append, edits_by_changeset-append}
use Rattle.osm_model.proofs.FilterLemmas.{extracts_are_kept_up}
use Rattle.osm_mirror.specs.Room.{GrowsBy, HasRoom}
use Rattle.osm_mirror.specs.Mirror.{MirrorValue, object_at, Applies, IsMirrorOf, no_mirror}

pub rising-nil : {K : Type 0} (cmp : K → K → Ordering) → IsStrictlySortedBy cmp []
unfolding IsStrictlySortedBy
rising-nil cmp = tt

-- the empty mirror is that of no changes
pub mirror_of-nil : (f : FilterValue) → IsMirrorOf f [] [] no_mirror
mirror_of-nil f = record {
  orderly = record {
    objects = rising-nil key_cmp;
    users = record { rising = rising-nil nat_cmp; above = tt };
    changesets = record { rising = rising-nil nat_cmp; above = tt };
  };
  objects = λ k. refl;
  users = λ uid. refl;
  changesets = λ id. refl;
}

pub Applies-append : (f : FilterValue) (a b c : MirrorValue) (xs ys : List ChangeValue) → Applies f a xs b
    → Applies f b ys c → Applies f a (xs ++ ys) c
Applies-append f a b c xs ys h g = record {
  orderly = g.orderly;
  objects = λ k. g.objects k ∙ (ap (λ (o : Option ChangeValue). over_at (left_by f) o (last_of ys k)) (h.objects k)
      ∙ sym (over-append (left_by f) (object_at a.objects) xs ys k));
  users = λ uid. (let p = h.users uid in let q = g.users uid in let r = edits_by_user-append xs ys uid in omega arith);
  changesets = λ id. (let p = h.changesets id in let q = g.changesets id in let r = edits_by_changeset-append xs ys id in omega arith);
}

pub edits_by_user-most : (cs : List ChangeValue) (uid : ℕ) → edits_by_user cs uid ≤ length cs
edits_by_user-most cs uid = count_by-le-length (λ (c : ChangeValue). c.meta.uid == uid) cs

pub edits_by_changeset-most : (cs : List ChangeValue) (id : ℕ) → edits_by_changeset cs id ≤ length cs
edits_by_changeset-most cs id = count_by-le-length (λ (c : ChangeValue). c.meta.changeset == id) cs

-- room for all is room for one after those before it
pub room_left : (filter : FilterValue) (a b : MirrorValue) (before after : List ChangeValue) (c : ChangeValue)
    → HasRoom (length (before ++ c ∷ after)) a → Applies filter a before b → HasRoom 1 b
room_left filter a b before after c room f =
    let all : length (before ++ c ∷ after) ≡ length before + length (c ∷ after) = length-append before (c ∷ after) in
    record {
      users = λ uid. (let r = room.users uid in let p = f.users uid in let q = edits_by_user-most before uid in omega arith);
      changesets = λ id. (let r = room.changesets id in let p = f.changesets id in let q = edits_by_changeset-most before id in omega arith);
    }

-- the mirror of some changes, with more applied, is the mirror of them all
pub mirror_grown : (filter : FilterValue) (a b : MirrorValue) (xs counted ys : List ChangeValue) → IsMirrorOf filter xs counted a
    → Applies filter a ys b → IsMirrorOf filter (xs ++ ys) (counted ++ ys) b
mirror_grown filter a b xs counted ys m f = record {
  orderly = f.orderly;
  objects = λ k. f.objects k ∙ (ap (λ (o : Option ChangeValue). over_at (left_by filter) o (last_of ys k)) (m.objects k)
      ∙ (extracts_are_kept_up filter (content_of xs) ys k
      ∙ ap (kept_object filter) (sym (over-append object_after nothing xs ys k))));
  users = λ uid. (let p = f.users uid in let q = m.users uid in let r = edits_by_user-append counted ys uid in omega arith);
  changesets = λ id. (let p = f.changesets id in let q = m.changesets id in let r = edits_by_changeset-append counted ys id in omega arith);
}

pub GrowsBy-more : (a b c : MirrorValue) (n more total : ℕ) → GrowsBy n a b → GrowsBy more b c → total ≡ n + more → GrowsBy total a c
GrowsBy-more a b c n more total f g is =
    let fo = f.objects in
    let fu = f.users in
    let fs = f.changesets in
    let go = g.objects in
    let gu = g.users in
    let gs = g.changesets in
    record { objects = omega arith; users = omega arith; changesets = omega arith }
