-- The comparison of changes tells whether they are the same.
use Rattle.std.proofs.Common.{◌≡◌, ℕ, ℤ, List, true, false, refl, ap, ◌∙◌, int_eq}
use Rattle.std.specs.Prelude.{Bool, ◌&&◌, nat_eq}
use Rattle.std.specs.Bool.{Decides}
use Rattle.std.specs.Str.{bytes_eq}
use Rattle.std.specs.Cmp.Lexicographic.{pointwise}
use Rattle.std.proofs.lemmas.Bool.{and_from, and_parts}
use Rattle.std.proofs.lemmas.Bool.Decides.{Decides-eqb, Decides-int_eq}
use Rattle.std.proofs.lemmas.Slice.Eq.{bytes_eq-Decides, slice_eq-Decides}
use Rattle.osm_model.specs.Change.{ChangeValue}
use Rattle.osm_model.specs.Meta.{MetaValue}
use Rattle.osm_model.specs.declared.change.What.{What}
use Rattle.osm_model.specs.declared.change.What.TheVariants as whats
use Rattle.osm_model.specs.declared.kind.Key.{Key}
use Rattle.osm_model.specs.declared.kind.Kind.{Kind}
use Rattle.osm_model.specs.declared.kind.Kind.TheVariants as kinds
use Rattle.osm_model.specs.declared.lists.Member.{Member}
use Rattle.osm_model.specs.declared.lists.Tag.{Tag}
use Rattle.osm_model.specs.contracts.change.ChangePartialEq.TheImpl.{eq-value}
use Rattle.osm_model.specs.contracts.kind.KindPartialEq.TheImpl.{eq-value as kind_eq}

-- two tests that both have to hold
both : (P Q R : Type 0) (x y : Bool) → Decides x P → Decides y Q → (P → Q → R) → (R → P) → (R → Q) → Decides (x && y) R
both P Q R x y p q make first second = (
  λ yes. (let parts = and_parts x y yes in make (p.0 parts.0) (q.0 parts.1)),
  λ r. and_from x y (p.1 (first r)) (q.1 (second r)),
)

kind_same : (a b : Kind) → Decides (kind_eq.it a b) (a ≡ b)
kind_same kinds.Node kinds.Node = (λ yes. refl, λ same. refl)
kind_same kinds.Way kinds.Way = (λ yes. refl, λ same. refl)
kind_same kinds.Relation kinds.Relation = (λ yes. refl, λ same. refl)
kind_same kinds.Node kinds.Way = (λ yes. absurd (let e : false ≡ true = yes in cc), λ same. absurd cc)
kind_same kinds.Node kinds.Relation = (λ yes. absurd (let e : false ≡ true = yes in cc), λ same. absurd cc)
kind_same kinds.Way kinds.Node = (λ yes. absurd (let e : false ≡ true = yes in cc), λ same. absurd cc)
kind_same kinds.Way kinds.Relation = (λ yes. absurd (let e : false ≡ true = yes in cc), λ same. absurd cc)
kind_same kinds.Relation kinds.Node = (λ yes. absurd (let e : false ≡ true = yes in cc), λ same. absurd cc)
kind_same kinds.Relation kinds.Way = (λ yes. absurd (let e : false ≡ true = yes in cc), λ same. absurd cc)

abbrev the_key : Kind → ℤ → Key
the_key kind id = record { kind = kind; id = id }

abbrev the_meta : ℕ → ℕ → ℕ → ℕ → List ℕ → MetaValue
the_meta version time changeset uid user = record { version = version; time = time; changeset = changeset; uid = uid; user = user }

abbrev the_tag : List ℕ → List ℕ → Tag
the_tag key value = record { key = key; value = value }

abbrev the_member : Key → List ℕ → Member
the_member key role = record { key = key; role = role }

abbrev the_change : Key → MetaValue → What → ChangeValue
the_change key meta what = record { key = key; meta = meta; what = what }

key_same : (a b : Key) → Decides (kind_eq.it a.kind b.kind && int_eq a.id b.id) (a ≡ b)
key_same a b =
    both (a.kind ≡ b.kind) (a.id ≡ b.id) (a ≡ b) (kind_eq.it a.kind b.kind) (int_eq a.id b.id) (kind_same a.kind b.kind) (Decides-int_eq a.id b.id)
    (λ p q. ap (λ (k : Kind). the_key k a.id) p ∙ ap (λ (i : ℤ). the_key b.kind i) q)
    (λ r. ap (λ (k : Key). k.kind) r) (λ r. ap (λ (k : Key). k.id) r)

meta_same : (a b : MetaValue) → Decides (nat_eq a.version b.version
    && (nat_eq a.time b.time && (nat_eq a.changeset b.changeset && (nat_eq a.uid b.uid && bytes_eq a.user b.user)))) (a ≡ b)
meta_same a b =
    both (a.version ≡ b.version) ((a.time ≡ b.time) × (a.changeset ≡ b.changeset) × (a.uid ≡ b.uid) × (a.user ≡ b.user)) (a ≡ b)
    (nat_eq a.version b.version) _ (Decides-eqb a.version b.version)
    (both (a.time ≡ b.time) ((a.changeset ≡ b.changeset) × (a.uid ≡ b.uid) × (a.user ≡ b.user)) _ (nat_eq a.time b.time) _ (Decides-eqb a.time b.time)
    (both (a.changeset ≡ b.changeset) ((a.uid ≡ b.uid) × (a.user ≡ b.user)) _ (nat_eq a.changeset b.changeset) _ (Decides-eqb a.changeset b.changeset)
    (both (a.uid ≡ b.uid) (a.user ≡ b.user) _ (nat_eq a.uid b.uid) (bytes_eq a.user b.user) (Decides-eqb a.uid b.uid) (bytes_eq-Decides a.user b.user)
    (λ p q. (p, q)) (λ r. r.0) (λ r. r.1))
    (λ p q. (p, q.0, q.1)) (λ r. r.0) (λ r. (r.1, r.2)))
    (λ p q. (p, q.0, q.1, q.2)) (λ r. r.0) (λ r. (r.1, r.2, r.3)))
    (λ p q. ap (λ (v : ℕ). the_meta v a.time a.changeset a.uid a.user) p ∙ (ap (λ (v : ℕ). the_meta b.version v a.changeset a.uid a.user) q.0
    ∙ (ap (λ (v : ℕ). the_meta b.version b.time v a.uid a.user) q.1 ∙ (ap (λ (v : ℕ). the_meta b.version b.time b.changeset v a.user) q.2
    ∙ ap (λ (v : List ℕ). the_meta b.version b.time b.changeset b.uid v) q.3))))
    (λ r. ap (λ (x : MetaValue). x.version) r)
    (λ r. (ap (λ (x : MetaValue). x.time) r, ap (λ (x : MetaValue). x.changeset) r, ap (λ (x : MetaValue). x.uid) r, ap (λ (x : MetaValue). x.user) r))

tag_same : (a b : Tag) → Decides (bytes_eq a.key b.key && bytes_eq a.value b.value) (a ≡ b)
tag_same a b =
    both (a.key ≡ b.key) (a.value ≡ b.value) (a ≡ b) (bytes_eq a.key b.key) (bytes_eq a.value b.value) (bytes_eq-Decides a.key b.key)
    (bytes_eq-Decides a.value b.value)
    (λ p q. ap (λ (t : List ℕ). the_tag t a.value) p ∙ ap (λ (t : List ℕ). the_tag b.key t) q)
    (λ r. ap (λ (t : Tag). t.key) r) (λ r. ap (λ (t : Tag). t.value) r)

member_same : (a b : Member) → Decides ((kind_eq.it a.key.kind b.key.kind && int_eq a.key.id b.key.id) && bytes_eq a.role b.role) (a ≡ b)
member_same a b =
    both (a.key ≡ b.key) (a.role ≡ b.role) (a ≡ b) _ (bytes_eq a.role b.role) (key_same a.key b.key) (bytes_eq-Decides a.role b.role)
    (λ p q. ap (λ (k : Key). the_member k a.role) p ∙ ap (λ (t : List ℕ). the_member b.key t) q)
    (λ r. ap (λ (m : Member). m.key) r) (λ r. ap (λ (m : Member). m.role) r)

tags_same : (a b : List Tag) → Decides (pointwise (λ (x y : Tag). bytes_eq x.key y.key && bytes_eq x.value y.value) a b) (a ≡ b)
tags_same a b = slice_eq-Decides tag_same a b _ refl

refs_same : (a b : List ℤ) → Decides (pointwise int_eq a b) (a ≡ b)
refs_same a b = slice_eq-Decides Decides-int_eq a b _ refl

members_same : (a b : List Member)
    → Decides (pointwise (λ (x y : Member). (kind_eq.it x.key.kind y.key.kind && int_eq x.key.id y.key.id) && bytes_eq x.role y.role) a b) (a ≡ b)
members_same a b = slice_eq-Decides member_same a b _ refl

-- changes that differ at most in what the object is
with_what : (k l : Key) (m n : MetaValue) (v w : What) (test : Bool) → Decides test (v ≡ w)
    → Decides ((kind_eq.it k.kind l.kind && int_eq k.id l.id) && ((nat_eq m.version n.version
    && (nat_eq m.time n.time && (nat_eq m.changeset n.changeset && (nat_eq m.uid n.uid && bytes_eq m.user n.user)))) && test))
    (the_change k m v ≡ the_change l n w)
with_what k l m n v w test what =
    both (k ≡ l) ((m ≡ n) × (v ≡ w)) _ _ _ (key_same k l)
    (both (m ≡ n) (v ≡ w) _ _ test (meta_same m n) what (λ p q. (p, q)) (λ r. r.0) (λ r. r.1))
    (λ p q. ap (λ (x : Key). the_change x m v) p ∙ (ap (λ (x : MetaValue). the_change l x v) q.0 ∙ ap (λ (x : What). the_change l n x) q.1))
    (λ r. ap (λ (c : ChangeValue). c.key) r) (λ r. (ap (λ (c : ChangeValue). c.meta) r, ap (λ (c : ChangeValue). c.what) r))

no_test : (v w : What) → (v ≡ w → ⊥) → Decides false (v ≡ w)
no_test v w apart = (λ yes. absurd (let e : false ≡ true = yes in cc), λ same. absurd (apart same))

by_what : (k l : Key) (m n : MetaValue) (v w : What) → Decides (eq-value.it (the_change k m v) (the_change l n w)) (the_change k m v ≡ the_change l n w)
by_what k l m n (whats.Node x y tags) (whats.Node x' y' tags') =
    with_what k l m n (whats.Node x y tags) (whats.Node x' y' tags') _
    (both (x ≡ x') ((y ≡ y') × (tags ≡ tags')) _ _ _ (Decides-int_eq x x')
    (both (y ≡ y') (tags ≡ tags') _ _ _ (Decides-int_eq y y') (tags_same tags tags') (λ p q. (p, q)) (λ r. r.0) (λ r. r.1))
    (λ p q. (let a = q.0 in let b = q.1 in cc)) (λ r. cc) (λ r. (cc, cc)))
by_what k l m n (whats.Way refs tags) (whats.Way refs' tags') =
    with_what k l m n (whats.Way refs tags) (whats.Way refs' tags') _
    (both (refs ≡ refs') (tags ≡ tags') _ _ _ (refs_same refs refs') (tags_same tags tags') (λ p q. cc) (λ r. cc) (λ r. cc))
by_what k l m n (whats.Relation members tags) (whats.Relation members' tags') =
    with_what k l m n (whats.Relation members tags) (whats.Relation members' tags') _
    (both (members ≡ members') (tags ≡ tags') _ _ _ (members_same members members') (tags_same tags tags') (λ p q. cc) (λ r. cc) (λ r. cc))
by_what k l m n whats.Deleted whats.Deleted = with_what k l m n whats.Deleted whats.Deleted true (λ yes. refl, λ same. refl)
by_what k l m n (whats.Node x y tags) (whats.Way refs tags') = with_what k l m n (whats.Node x y tags) (whats.Way refs tags') false (no_test _ _ (λ e. cc))
by_what k l m n (whats.Node x y tags) (whats.Relation members tags') =
    with_what k l m n (whats.Node x y tags) (whats.Relation members tags') false (no_test _ _ (λ e. cc))
by_what k l m n (whats.Node x y tags) whats.Deleted = with_what k l m n (whats.Node x y tags) whats.Deleted false (no_test _ _ (λ e. cc))
by_what k l m n (whats.Way refs tags) (whats.Node x y tags') = with_what k l m n (whats.Way refs tags) (whats.Node x y tags') false (no_test _ _ (λ e. cc))
by_what k l m n (whats.Way refs tags) (whats.Relation members tags') =
    with_what k l m n (whats.Way refs tags) (whats.Relation members tags') false (no_test _ _ (λ e. cc))
by_what k l m n (whats.Way refs tags) whats.Deleted = with_what k l m n (whats.Way refs tags) whats.Deleted false (no_test _ _ (λ e. cc))
by_what k l m n (whats.Relation members tags) (whats.Node x y tags') =
    with_what k l m n (whats.Relation members tags) (whats.Node x y tags') false (no_test _ _ (λ e. cc))
by_what k l m n (whats.Relation members tags) (whats.Way refs tags') =
    with_what k l m n (whats.Relation members tags) (whats.Way refs tags') false (no_test _ _ (λ e. cc))
by_what k l m n (whats.Relation members tags) whats.Deleted = with_what k l m n (whats.Relation members tags) whats.Deleted false (no_test _ _ (λ e. cc))
by_what k l m n whats.Deleted (whats.Node x y tags') = with_what k l m n whats.Deleted (whats.Node x y tags') false (no_test _ _ (λ e. cc))
by_what k l m n whats.Deleted (whats.Way refs tags') = with_what k l m n whats.Deleted (whats.Way refs tags') false (no_test _ _ (λ e. cc))
by_what k l m n whats.Deleted (whats.Relation members tags') = with_what k l m n whats.Deleted (whats.Relation members tags') false (no_test _ _ (λ e. cc))

pub change_same : (a b : ChangeValue) → Decides (eq-value.it a b) (a ≡ b)
change_same a b = by_what a.key b.key a.meta b.meta a.what b.what
