-- Keys that compare as equal are equal, and what is left by one list of changes after another.
use Rattle.std.proofs.Common.{◌≡◌, ℕ, ◌+◌, List, [], ◌∷◌, ◌++◌, refl, ap, sym, ◌∙◌, true, Some, None, Option, ℤ}
use Rattle.std.specs.Prelude.{if◌then◌else◌, ◌==◌}
use Rattle.std.specs.Cmp.{int_cmp_is}
use Rattle.std.specs.Ordering.{int_cmp, is_eq}
use Rattle.std.specs.declared.cmp.Ordering.{Ordering}
use Rattle.std.specs.declared.cmp.Ordering.TheVariants.{Less, Equal, Greater}
use Rattle.std.proofs.lemmas.List.Sums.{sum_by-append}
use Rattle.std.proofs.lemmas.Map.Lookups.{exact_signed}
use Rattle.osm_model.specs.Change.{ChangeValue}
use Rattle.osm_model.specs.Content.{Leaving, last_of, later_of, over_at, over, nothing, content_of, object_after, edits_by_user, edits_by_changeset}
use Rattle.osm_model.specs.ContentLaws.{KindsAreOrdered, KeysAreTold, ContentsJoin, EditsAdd}
use Rattle.osm_model.specs.KeyOrder.{key_cmp, same_key}
use Rattle.osm_model.specs.declared.kind.Key.{Key}
use Rattle.osm_model.specs.declared.kind.Kind.{Kind}
use Rattle.osm_model.specs.declared.kind.Kind.TheVariants.{Node, Way, Relation}

by_parts : (k l : Kind) (i j : ℤ) → (let a : Key = record { kind = k; id = i } in let b : Key = record { kind = l; id = j } in key_cmp a b ≡ Equal → a ≡ b)
by_parts Node Node i j e = ap (λ n. (let a : Key = record { kind = Node; id = n } in a)) (exact_signed i j e)
by_parts Way Way i j e = ap (λ n. (let a : Key = record { kind = Way; id = n } in a)) (exact_signed i j e)
by_parts Relation Relation i j e = ap (λ n. (let a : Key = record { kind = Relation; id = n } in a)) (exact_signed i j e)
by_parts k l i j e = absurd (cc)

pub one_key : (a b : Key) → key_cmp a b ≡ Equal → a ≡ b
one_key a b e = by_parts a.kind b.kind a.id b.id e

int_same : (i : ℤ) → int_cmp i i ≡ Equal
int_same i = sym (int_cmp_is i i Equal refl)

same_cmp : (k : Kind) (i : ℤ) → (let a : Key = record { kind = k; id = i } in key_cmp a a ≡ Equal)
same_cmp Node i = int_same i
same_cmp Way i = int_same i
same_cmp Relation i = int_same i

-- a key is equal to itself, and to no other
pub same_key-refl : (a : Key) → same_key a a ≡ true
same_key-refl a = ap is_eq (same_cmp a.kind a.id)

pub same_key-only : (a b : Key) → same_key a b ≡ true → a ≡ b
same_key-only a b e = one_key a b (equal_of (key_cmp a b) e)
  where
    equal_of : (o : Ordering) → is_eq o ≡ true → o ≡ Equal
    equal_of Less e = absurd (cc)
    equal_of Equal e = refl
    equal_of Greater e = absurd (cc)

pub later_of-none : (o : Option ChangeValue) → later_of None o ≡ o
later_of-none None = refl
later_of-none (Some c) = refl

later_of-assoc : (x y z : Option ChangeValue) → later_of x (later_of y z) ≡ later_of (later_of x y) z
later_of-assoc x y None = refl
later_of-assoc x y (Some z) = refl

pub last_of-append : (a b : List ChangeValue) (k : Key) → last_of (a ++ b) k ≡ later_of (last_of a k) (last_of b k)
last_of-append [] b k = sym (later_of-none (last_of b k))
last_of-append (c ∷ a) b k = rw (last_of-append a b k) (later_of-assoc (if same_key c.key k then Some c else None) (last_of a k) (last_of b k))

over_at-later_of : (left : Leaving) (before x y : Option ChangeValue)
    → over_at left before (later_of x y) ≡ over_at left (over_at left before x) y
over_at-later_of left before x None = refl
over_at-later_of left before x (Some y) = refl

-- one list of changes after another is their joined list
pub over-append : (left : Leaving) (before : Key → Option ChangeValue) (a b : List ChangeValue) (k : Key)
    → over left before (a ++ b) k ≡ over left (over left before a) b k
over-append left before a b k =
    ap (over_at left (before k)) (last_of-append a b k) ∙ over_at-later_of left (before k) (last_of a k) (last_of b k)

-- the content of two lists joined is the second over the content of the first
pub content_of-append : (a b : List ChangeValue) (k : Key) → content_of (a ++ b) k ≡ over object_after (content_of a) b k
content_of-append a b k = over-append object_after nothing a b k

pub edits_by_user-append : (a b : List ChangeValue) (uid : ℕ) → edits_by_user (a ++ b) uid ≡ edits_by_user a uid + edits_by_user b uid
edits_by_user-append a b uid = sum_by-append (λ (c : ChangeValue). if c.meta.uid == uid then 1 else 0) a b

pub edits_by_changeset-append : (a b : List ChangeValue) (id : ℕ) → edits_by_changeset (a ++ b) id ≡ edits_by_changeset a id + edits_by_changeset b id
edits_by_changeset-append a b id = sum_by-append (λ (c : ChangeValue). if c.meta.changeset == id then 1 else 0) a b

pub kinds_are_ordered : KindsAreOrdered
kinds_are_ordered Node Node = refl
kinds_are_ordered Node Way = refl
kinds_are_ordered Node Relation = refl
kinds_are_ordered Way Node = refl
kinds_are_ordered Way Way = refl
kinds_are_ordered Way Relation = refl
kinds_are_ordered Relation Node = refl
kinds_are_ordered Relation Way = refl
kinds_are_ordered Relation Relation = refl

pub keys_are_told : KeysAreTold
keys_are_told a b = (same_key-only a b, λ e. rw e (same_key-refl b))

pub contents_join : ContentsJoin
contents_join a b k = content_of-append a b k

pub edits_add : EditsAdd
edits_add a b n = (edits_by_user-append a b n, edits_by_changeset-append a b n)
