-- What is read is within its limits, whatever came before it.
use Rattle.std.proofs.Common.{◌≡◌, ℕ, zero, suc, ◌≤◌, List, [], ◌∷◌, length, Option, Some, refl, subst, arith}
use Rattle.std.specs.Prelude.{ℤ, ◌+ℤ◌}
use Rattle.std.specs.List.{AllByRecursion}
use Rattle.std.proofs.lemmas.Option.{same_Some}
use Rattle.osm_model.specs.Change.{IsWhat, AreTags}
use Rattle.osm_model.specs.Limits.{IsId, IsLongitude, IsLatitude}
use Rattle.osm_model.specs.Lists.{IsTag}
use Rattle.osm_model.specs.Text.{IsText}
use Rattle.osm_model.specs.declared.kind.Kind.{Kind}
use Rattle.osm_model.specs.declared.kind.Kind.TheVariants as kinds
use Rattle.osm_model.specs.declared.change.What.{What}
use Rattle.osm_model.specs.declared.change.What.TheVariants.{Deleted}
use Rattle.osm_model.specs.declared.lists.Member.{Member}
use Rattle.osm_model.specs.declared.lists.Tag.{Tag}
use Rattle.osm_o5c.specs.Written.{member_counter}
use Rattle.osm_o5c.specs.NumberReading.{wrapped_of, signed_at, part_at, id_at, longitude_at, latitude_at, is_id, is_longitude, is_latitude}
use Rattle.osm_o5c.specs.StringReading.{pair_at, single_at, text_of, tag_at}
use Rattle.osm_o5c.specs.ObjectReading.{many_at, ref_at, kind_of_digit, role_of, member_at, tags_at, refs_at}
use Rattle.osm_o5c.specs.ObjectReading.{members_at, node_at, way_at, relation_at, what_at}
use Rattle.osm_reading.specs.Answers.{and_then, when}
use Rattle.osm_o5c.specs.declared.reader.Reader.{Reader}
use Rattle.osm_o5c.specs.declared.strings.Entry.{Entry}
use Rattle.osm_reading.proofs.StepLemmas.{some_then, some_when}
use Rattle.osm_o5c.proofs.CounterLemmas.{is_id_is, is_longitude_is, is_latitude_is}
use Rattle.osm_o5c.proofs.StringLemmas.{text_takes}
use Rattle.osm_o5c.proofs.FieldLemmas.{IsMember, made_member}
use Rattle.osm_o5c.proofs.ObjectLemmas.{are_ids, are_roles, made_node, made_way, made_relation}

record Listed {A : Type 0} (limits : A → Type 0) (most : ℕ) (xs : List A) : Type 0 where
  few : length xs ≤ most
  each : AllByRecursion limits xs

many_limits : {S A : Type 0} (limits : A → Type 0) (one : S → List ℕ → Option (A × S × List ℕ))
    → ((s : S) (bytes : List ℕ) (x : A × S × List ℕ) → one s bytes ≡ Some x → limits x.0)
    → (most : ℕ) (s : S) (bytes : List ℕ) (m : List A × S) → many_at one most s bytes ≡ Some m → Listed limits most m.0
unfolding many_at
many_limits {S} {A} limits one law zero s [] m e = subst (λ (p : List A × S). Listed limits zero p.0)
    (same_Some ([], s) m e) (record { few = omega arith; each = tt })
many_limits {S} {A} limits one law (suc k) s [] m e = subst (λ (p : List A × S). Listed limits (suc k) p.0)
    (same_Some ([], s) m e) (record { few = omega arith; each = tt })
many_limits limits one law zero s (b ∷ bs) m e = absurd cc
many_limits {S} {A} limits one law (suc k) s (b ∷ bs) m e =
    let y = some_then (one s (b ∷ bs)) (λ x. and_then (many_at one k x.1 x.2) (λ m. Some (x.0 ∷ m.0, m.1))) m e in
    let n = some_then (many_at one k y.0.1 y.0.2) (λ m. Some (y.0.0 ∷ m.0, m.1)) m y.2 in
    let tail : Listed limits k n.0.0 = many_limits limits one law k y.0.1 y.0.2 n.0 n.1 in
    let few : length n.0.0 ≤ k = tail.few in
    subst (λ (p : List A × S). Listed limits (suc k) p.0) (same_Some (y.0.0 ∷ n.0.0, n.0.1) m n.2)
    (record { few = omega arith; each = (law s (b ∷ bs) y.0 y.1, tail.each) })

tag_limits : (table : List Entry) (bytes : List ℕ) (x : Tag × List Entry × List ℕ) → tag_at table bytes ≡ Some x → IsTag x.0
unfolding tag_at
tag_limits table bytes x e =
    let p = some_then (pair_at table bytes)
    (λ p. and_then (text_of p.0.0)
    (λ key. and_then (text_of p.0.1) (λ value. Some (record { key = key; value = value }, p.1, p.2)))) x e in
    let k = some_then (text_of p.0.0.0) (λ key. and_then (text_of p.0.0.1) (λ value. Some (record { key = key; value = value }, p.0.1, p.0.2))) x p.2 in
    let v = some_then (text_of p.0.0.1) (λ value. Some (record { key = k.0; value = value }, p.0.1, p.0.2)) x k.2 in
    subst (λ (q : Tag × List Entry × List ℕ). IsTag q.0) (same_Some (record { key = k.0; value = v.0 }, p.0.1, p.0.2) x v.2)
    (record { key = (text_takes p.0.0.0 k.0 k.1).1; value = (text_takes p.0.0.1 v.0 v.1).1 })

pub id_limits : (before : ℤ) (bytes : List ℕ) (id : ℤ) (rest : List ℕ) → id_at before bytes ≡ Some (id, rest) → IsId id
unfolding id_at
id_limits before bytes id rest e =
    let d = some_then (signed_at bytes) (λ d. when (is_id (before +ℤ d.0)) (Some (before +ℤ d.0, d.1))) (id, rest) e in
    let g = some_when (is_id (before +ℤ d.0.0)) (Some (before +ℤ d.0.0, d.0.1)) (id, rest) d.2 in
    subst (λ (q : ℤ × List ℕ). IsId q.0) (same_Some (before +ℤ d.0.0, d.0.1) (id, rest) g.1) (is_id_is (before +ℤ d.0.0) g.0)

ref_limits : (before : ℤ) (bytes : List ℕ) (x : ℤ × ℤ × List ℕ) → ref_at before bytes ≡ Some x → IsId x.0
unfolding ref_at
ref_limits before bytes x e =
    let r = some_then (id_at before bytes) (λ r. Some (r.0, r.0, r.1)) x e in
    subst (λ (q : ℤ × ℤ × List ℕ). IsId q.0) (same_Some (r.0.0, r.0.0, r.0.1) x r.2) (id_limits before bytes r.0.0 r.0.1 r.1)

role_limits : (bytes : List ℕ) (x : Kind × List ℕ) → role_of bytes ≡ Some x → IsText x.1
unfolding role_of
role_limits [] x e = absurd cc
role_limits (b ∷ bs) x e =
    let k = some_then (kind_of_digit b) (λ kind. and_then (text_of bs) (λ role. Some (kind, role))) x e in
    let r = some_then (text_of bs) (λ role. Some (k.0, role)) x k.2 in
    subst (λ (p : Kind × List ℕ). IsText p.1) (same_Some (k.0, r.0) x r.2) (text_takes bs r.0 r.1).1

member_limits : (s : Reader) (bytes : List ℕ) (x : Member × Reader × List ℕ) → member_at s bytes ≡ Some x → IsMember x.0
unfolding member_at
member_limits s bytes x e =
    let d = some_then (signed_at bytes) (λ d. and_then (single_at s.strings d.1)
    (λ t. and_then (role_of t.0) (λ r. when (is_id (member_counter r.0 s.counters +ℤ d.0))
    (Some (made_member s d.0 t r))))) x e in
    let t = some_then (single_at s.strings d.0.1)
    (λ t. and_then (role_of t.0) (λ r. when (is_id (member_counter r.0 s.counters +ℤ d.0.0))
    (Some (made_member s d.0.0 t r)))) x d.2 in
    let r = some_then (role_of t.0.0) (λ r. when (is_id (member_counter r.0 s.counters +ℤ d.0.0)) (Some (made_member s d.0.0 t.0 r))) x t.2 in
    let g = some_when (is_id (member_counter r.0.0 s.counters +ℤ d.0.0)) (Some (made_member s d.0.0 t.0 r.0)) x r.2 in
    subst (λ (q : Member × Reader × List ℕ). IsMember q.0) (same_Some (made_member s d.0.0 t.0 r.0) x g.1)
    (record { id = is_id_is (member_counter r.0.0 s.counters +ℤ d.0.0) g.0; role = role_limits t.0.0 r.0 r.1 })

are_tags : (table : List Entry) (bytes : List ℕ) (t : List Tag × List Entry) → tags_at table bytes ≡ Some t → AreTags t.0
are_tags table bytes t e = let l = many_limits IsTag tag_at tag_limits 5000 table bytes t e in record { few = l.few; each = l.each }

node_limits : (s : Reader) (bytes : List ℕ) (x : What × Reader) → node_at s bytes ≡ Some x → IsWhat kinds.Node x.0
unfolding node_at longitude_at latitude_at
node_limits s bytes x e =
    let a = some_then (longitude_at s.counters.lon bytes) (λ a. and_then (latitude_at s.counters.lat a.1)
    (λ y. and_then (tags_at s.strings y.1) (λ t. Some (made_node s a y t)))) x e in
    let b = some_then (latitude_at s.counters.lat a.0.1) (λ y. and_then (tags_at s.strings y.1) (λ t. Some (made_node s a.0 y t))) x a.2 in
    let t = some_then (tags_at s.strings b.0.1) (λ t. Some (made_node s a.0 b.0 t)) x b.2 in
    let d = some_then (signed_at bytes) (λ d. when (is_longitude (wrapped_of (s.counters.lon +ℤ d.0)))
    (Some (wrapped_of (s.counters.lon +ℤ d.0), d.1))) a.0 a.1 in
    let g = some_when (is_longitude (wrapped_of (s.counters.lon +ℤ d.0.0))) (Some (wrapped_of (s.counters.lon +ℤ d.0.0), d.0.1)) a.0 d.2 in
    let lon : IsLongitude a.0.0 = subst (λ (q : ℤ × List ℕ). IsLongitude q.0)
    (same_Some (wrapped_of (s.counters.lon +ℤ d.0.0), d.0.1) a.0 g.1)
    (is_longitude_is (wrapped_of (s.counters.lon +ℤ d.0.0)) g.0) in
    let f = some_then (signed_at a.0.1) (λ d. when (is_latitude (wrapped_of (s.counters.lat +ℤ d.0)))
    (Some (wrapped_of (s.counters.lat +ℤ d.0), d.1))) b.0 b.1 in
    let h = some_when (is_latitude (wrapped_of (s.counters.lat +ℤ f.0.0))) (Some (wrapped_of (s.counters.lat +ℤ f.0.0), f.0.1)) b.0 f.2 in
    let lat : IsLatitude b.0.0 = subst (λ (q : ℤ × List ℕ). IsLatitude q.0)
    (same_Some (wrapped_of (s.counters.lat +ℤ f.0.0), f.0.1) b.0 h.1)
    (is_latitude_is (wrapped_of (s.counters.lat +ℤ f.0.0)) h.0) in
    subst (λ (p : What × Reader). IsWhat kinds.Node p.0) (same_Some (made_node s a.0 b.0 t.0) x t.2)
    (refl, record { longitude = lon; latitude = lat }, are_tags s.strings b.0.1 t.0 t.1)

way_limits : (s : Reader) (bytes : List ℕ) (x : What × Reader) → way_at s bytes ≡ Some x → IsWhat kinds.Way x.0
unfolding way_at
way_limits s bytes x e =
    let p = some_then (part_at bytes) (λ p. and_then (refs_at s.counters.way_node p.0)
    (λ r. and_then (tags_at s.strings p.1) (λ t. Some (made_way s r t)))) x e in
    let r = some_then (refs_at s.counters.way_node p.0.0) (λ r. and_then (tags_at s.strings p.0.1) (λ t. Some (made_way s r t))) x p.2 in
    let t = some_then (tags_at s.strings p.0.1) (λ t. Some (made_way s r.0 t)) x r.2 in
    let refs = many_limits IsId ref_at ref_limits 32000 s.counters.way_node p.0.0 r.0 r.1 in
    subst (λ (q : What × Reader). IsWhat kinds.Way q.0) (same_Some (made_way s r.0 t.0) x t.2)
    (refl, record { few = refs.few; each = refs.each }, are_tags s.strings p.0.1 t.0 t.1)

relation_limits : (s : Reader) (bytes : List ℕ) (x : What × Reader) → relation_at s bytes ≡ Some x → IsWhat kinds.Relation x.0
unfolding relation_at
relation_limits s bytes x e =
    let p = some_then (part_at bytes) (λ p. and_then (members_at s p.0) (λ m. and_then (tags_at m.1.strings p.1) (λ t. Some (made_relation m t)))) x e in
    let m = some_then (members_at s p.0.0) (λ m. and_then (tags_at m.1.strings p.0.1) (λ t. Some (made_relation m t))) x p.2 in
    let t = some_then (tags_at m.0.1.strings p.0.1) (λ t. Some (made_relation m.0 t)) x m.2 in
    let members = many_limits IsMember member_at member_limits 32000 s p.0.0 m.0 m.1 in
    subst (λ (q : What × Reader). IsWhat kinds.Relation q.0) (same_Some (made_relation m.0 t.0) x t.2)
    (refl, record { few = members.few; ids = are_ids m.0.0 members.each; roles = are_roles m.0.0 members.each }, are_tags m.0.1.strings p.0.1 t.0 t.1)

pub what_limits : (kind : Kind) (s : Reader) (bytes : List ℕ) (what : What) (after : Reader) → what_at kind s bytes ≡ Some (what, after) → IsWhat kind what
unfolding what_at
what_limits kind s [] what after e = subst (λ (p : What × Reader). IsWhat kind p.0) (same_Some (Deleted, s) (what, after) e) tt
what_limits kinds.Node s (b ∷ bs) what after e = node_limits s (b ∷ bs) (what, after) e
what_limits kinds.Way s (b ∷ bs) what after e = way_limits s (b ∷ bs) (what, after) e
what_limits kinds.Relation s (b ∷ bs) what after e = relation_limits s (b ∷ bs) (what, after) e
