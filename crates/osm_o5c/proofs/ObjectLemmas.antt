-- Objects that are read are spelled, and vice versa.
use Rattle.std.proofs.Common.{◌≡◌, ℕ, ◌<◌, List, [], ◌∷◌, ◌++◌, length, Some, refl, ap, subst, ◌∙◌, append_assoc, arith}
use Rattle.std.specs.Prelude.{ℤ}
use Rattle.std.specs.List.{AllByRecursion}
use Rattle.std.proofs.lemmas.Option.{same_Some}
use Rattle.std.proofs.lemmas.List.{length-append}
use Rattle.osm_model.specs.Change.{ChangeValue, IsWhat, AreTags, AreRefs, AreMembers, HasMemberId}
use Rattle.osm_model.specs.Limits.{IsId, IsLocation}
use Rattle.osm_model.specs.Lists.{IsTag, IsRole}
use Rattle.osm_model.specs.Meta.{MetaValue}
use Rattle.osm_model.specs.declared.kind.Kind.{Kind}
use Rattle.osm_model.specs.declared.kind.Kind.TheVariants as kinds
use Rattle.osm_model.specs.declared.change.What.{What}
use Rattle.osm_model.specs.declared.change.What.TheVariants.{Node, Way, Relation, Deleted}
use Rattle.osm_model.specs.declared.lists.Member.{Member}
use Rattle.osm_model.specs.declared.lists.Tag.{Tag}
use Rattle.osm_o5c.specs.Context.{Context, total, SpellsSum, SpellsWrapped, with_strings}
use Rattle.osm_o5c.specs.Object.{SpellsTag, SpellsTags, SpellsRefs, SpellsMember, SpellsMembers, SpellsNode, SpellsWay}
use Rattle.osm_o5c.specs.Object.{SpellsRelation, SpellsWhat, SpellsObject}
use Rattle.osm_o5c.specs.NumberReading.{part_at, id_at, longitude_at, latitude_at}
use Rattle.osm_o5c.specs.StringReading.{tag_at}
use Rattle.osm_o5c.specs.ObjectReading.{ref_at, member_at, tags_at, refs_at, members_at, meta_at, node_at, way_at}
use Rattle.osm_o5c.specs.ObjectReading.{relation_at, shape_at, what_at, object_at}
use Rattle.osm_reading.specs.Answers.{and_then}
use Rattle.osm_o5c.specs.declared.reader.Reader.{Reader}
use Rattle.osm_o5c.specs.declared.strings.Entry.{Entry}
use Rattle.osm_reading.proofs.StepLemmas.{some_then}
use Rattle.osm_o5c.proofs.TakenLemmas.{parts_then}
use Rattle.osm_o5c.proofs.NumberLemmas.{number_some, part_takes, part_again}
use Rattle.osm_o5c.proofs.CounterLemmas.{id_takes, id_again, wrapped_total, wrapped_state, longitude_takes, longitude_again, latitude_takes, latitude_again}
use Rattle.osm_o5c.proofs.TableLemmas.{table_of}
use Rattle.osm_o5c.proofs.ManyLemmas.{TakesMany, many_takes, many_again}
use Rattle.osm_o5c.proofs.FieldLemmas.{counters_of, reader_of, tag_exact, ref_exact, member_exact, IsMember, meta_takes, meta_again}

-- ---- lists

tags_take : (ss : List Entry) (bytes : List ℕ) (x : List Tag × List Entry) → tags_at (table_of ss) bytes ≡ Some x
    → TakesMany table_of SpellsTag IsTag 5000 ss bytes x.0 x.1
tags_take ss bytes x e = many_takes table_of tag_at SpellsTag IsTag tag_exact 5000 ss bytes x e

tags_again : (ss : List Entry) (bytes : List ℕ) (tags : List Tag) (after : List Entry) → SpellsTags ss bytes tags after
    → AreTags tags → tags_at (table_of ss) bytes ≡ Some (tags, table_of after)
tags_again ss bytes tags after s l = many_again table_of tag_at SpellsTag IsTag tag_exact 5000 ss bytes tags after s l.few l.each

refs_take : (before : List ℤ) (bytes : List ℕ) (x : List ℤ × ℤ) → refs_at (total before) bytes ≡ Some x
    → TakesMany total SpellsSum IsId 32000 before bytes x.0 x.1
refs_take before bytes x e = many_takes total ref_at SpellsSum IsId ref_exact 32000 before bytes x e

refs_again : (before : List ℤ) (bytes : List ℕ) (refs : List ℤ) (after : List ℤ) → SpellsRefs before bytes refs after
    → AreRefs refs → refs_at (total before) bytes ≡ Some (refs, total after)
refs_again before bytes refs after s l = many_again total ref_at SpellsSum IsId ref_exact 32000 before bytes refs after s l.few l.each

members_take : (C : Context) (bytes : List ℕ) (x : List Member × Reader) → members_at (reader_of C) bytes ≡ Some x
    → TakesMany reader_of SpellsMember IsMember 32000 C bytes x.0 x.1
members_take C bytes x e = many_takes reader_of member_at SpellsMember IsMember member_exact 32000 C bytes x e

pub are_ids : (ms : List Member) → AllByRecursion IsMember ms → AllByRecursion HasMemberId ms
are_ids [] h = tt
are_ids (m ∷ ms) h = (h.0.id, are_ids ms h.1)

pub are_roles : (ms : List Member) → AllByRecursion IsMember ms → AllByRecursion IsRole ms
are_roles [] h = tt
are_roles (m ∷ ms) h = (h.0.role, are_roles ms h.1)

are_members : (ms : List Member) → AllByRecursion HasMemberId ms → AllByRecursion IsRole ms → AllByRecursion IsMember ms
are_members [] i r = tt
are_members (m ∷ ms) i r = (record { id = i.0; role = r.0 }, are_members ms i.1 r.1)

members_again : (C : Context) (bytes : List ℕ) (members : List Member) (after : Context)
    → SpellsMembers C bytes members after → AreMembers members → members_at (reader_of C) bytes ≡
    Some (members, reader_of after)
members_again C bytes members after s l = many_again reader_of member_at SpellsMember IsMember member_exact 32000 C
    bytes members after s l.few (are_members members l.ids l.roles)

-- ---- what an object is

-- the bytes spell something within the limits, and this is the reader after them
pub record WhatSpelled (kind : Kind) (C : Context) (bytes : List ℕ) (what : What) (s : Reader) : Type 0 where
  pub after : Context
  pub spells : SpellsWhat kind C bytes what after
  pub limits : IsWhat kind what
  pub same : s ≡ reader_of after

node_state : (C : Context) (lons lats : List ℤ) (ss : List Entry) (lon lat : ℤ) (table : List Entry)
    → lon ≡ wrapped_total lons → lat ≡ wrapped_total lats → table ≡ table_of ss
    → record { counters = record (counters_of C) { lon = lon; lat = lat }; strings = table } ≡ reader_of
    (record C { lons = lons; lats = lats; strings = ss })
node_state C lons lats ss lon lat table x y t = rw (x, y, t) refl

abbrev pub made_node : Reader → ℤ × List ℕ → ℤ × List ℕ → List Tag × List Entry → What × Reader
made_node s x y t = (Node x.0 y.0 t.0, record { counters = record s.counters { lon = x.0; lat = y.0 }; strings = t.1 })

node_takes : (C : Context) (bytes : List ℕ) (x : What × Reader) → node_at (reader_of C) bytes ≡ Some x → WhatSpelled kinds.Node C bytes x.0 x.1
unfolding node_at
node_takes C bytes x e =
    let a = some_then (longitude_at (wrapped_total C.lons) bytes)
    (λ a. and_then (latitude_at (wrapped_total C.lats) a.1) (λ y. and_then (tags_at (table_of C.strings) y.1)
    (λ t. Some (made_node (reader_of C) a y t)))) x e in
    let b = some_then (latitude_at (wrapped_total C.lats) a.0.1) (λ y. and_then (tags_at (table_of C.strings) y.1)
    (λ t. Some (made_node (reader_of C) a.0 y t))) x a.2 in
    let t = some_then (tags_at (table_of C.strings) b.0.1) (λ t. Some (made_node (reader_of C) a.0 b.0 t)) x b.2 in
    let lon = longitude_takes C.lons bytes a.0 a.1 in
    let lat = latitude_takes C.lats a.0.1 b.0 b.1 in
    let tags = tags_take C.strings b.0.1 t.0 t.1 in
    subst (λ (p : What × Reader). WhatSpelled kinds.Node C bytes p.0 p.1) (same_Some (made_node (reader_of C) a.0 b.0 t.0) x t.2)
    (record {
      after = record C { lons = lon.after; lats = lat.after; strings = tags.after };
      spells = (
        refl,
        record {
          lon_bytes = lon.prefix;
          lat_bytes = lat.prefix;
          tag_bytes = b.0.1;
          lons = lon.after;
          lats = lat.after;
          strings = tags.after;
          whole = parts_then bytes lon.prefix lat.prefix a.0.1 b.0.1 lon.parts lat.parts;
          longitude = lon.spelled.spells;
          latitude = lat.spelled.spells;
          tags_are = tags.spelled;
          context = refl;
        },
      );
      limits = (refl, record { longitude = lon.spelled.limits; latitude = lat.spelled.limits }, record { few = tags.few; each = tags.each });
      same = node_state C lon.after lat.after tags.after a.0.0 b.0.0 t.0.1 lon.same lat.same tags.same;
    })

node_again : (C : Context) (bytes : List ℕ) (lon lat : ℤ) (tags : List Tag) (after : Context)
    → SpellsNode C bytes lon lat tags after → IsLocation lon lat → AreTags tags → node_at (reader_of C) bytes ≡
    Some (Node lon lat tags, reader_of after)
unfolding node_at
node_again C bytes lon lat tags after s location l =
    let x : longitude_at (wrapped_total C.lons) (s.lon_bytes ++ (s.lat_bytes ++ s.tag_bytes)) ≡
    Some (lon, s.lat_bytes ++ s.tag_bytes) = longitude_again C.lons s.lon_bytes lon s.lons
    (s.lat_bytes ++ s.tag_bytes) s.longitude location.longitude in
    let y : latitude_at (wrapped_total C.lats) (s.lat_bytes ++ s.tag_bytes) ≡ Some (lat, s.tag_bytes) =
    latitude_again C.lats s.lat_bytes lat s.lats s.tag_bytes s.latitude location.latitude in
    let t : tags_at (table_of C.strings) s.tag_bytes ≡ Some (tags, table_of s.strings) = tags_again C.strings s.tag_bytes tags s.strings s.tags_are l in
    let whole : bytes ≡ s.lon_bytes ++ (s.lat_bytes ++ s.tag_bytes) = s.whole ∙ append_assoc s.lon_bytes s.lat_bytes s.tag_bytes in
    rw (whole, x, y, t, s.context, wrapped_state C.lons s.lon_bytes lon s.lons s.longitude, wrapped_state C.lats s.lat_bytes lat s.lats s.latitude) refl

way_state : (C : Context) (nodes : List ℤ) (ss : List Entry) (last : ℤ) (table : List Entry) → last ≡ total nodes
    → table ≡ table_of ss → record { counters = record (counters_of C) { way_node = last }; strings = table } ≡
    reader_of (record C { way_nodes = nodes; strings = ss })
way_state C nodes ss last table r t = rw (r, t) refl

abbrev pub made_way : Reader → List ℤ × ℤ → List Tag × List Entry → What × Reader
made_way s r t = (Way r.0 t.0, record { counters = record s.counters { way_node = r.1 }; strings = t.1 })

way_takes : (C : Context) (bytes : List ℕ) (x : What × Reader) → way_at (reader_of C) bytes ≡ Some x → WhatSpelled kinds.Way C bytes x.0 x.1
unfolding way_at
way_takes C bytes x e =
    let p = some_then (part_at bytes) (λ p. and_then (refs_at (total C.way_nodes) p.0)
    (λ r. and_then (tags_at (table_of C.strings) p.1) (λ t. Some (made_way (reader_of C) r t)))) x e in
    let r = some_then (refs_at (total C.way_nodes) p.0.0) (λ r. and_then (tags_at (table_of C.strings) p.0.1) (λ t. Some (made_way (reader_of C) r t))) x p.2 in
    let t = some_then (tags_at (table_of C.strings) p.0.1) (λ t. Some (made_way (reader_of C) r.0 t)) x r.2 in
    let part = part_takes bytes p.0 p.1 in
    let refs = refs_take C.way_nodes p.0.0 r.0 r.1 in
    let tags = tags_take C.strings p.0.1 t.0 t.1 in
    subst (λ (q : What × Reader). WhatSpelled kinds.Way C bytes q.0 q.1) (same_Some (made_way (reader_of C) r.0 t.0) x t.2)
    (record {
      after = record C { way_nodes = refs.after; strings = tags.after };
      spells = (
        refl,
        record {
          length_bytes = part.spelled.length_bytes;
          part = p.0.0;
          tag_bytes = p.0.1;
          way_nodes = refs.after;
          strings = tags.after;
          whole = part.parts ∙ ap (λ (l : List ℕ). l ++ p.0.1) part.spelled.whole;
          part_length = part.spelled.spells;
          refs_are = refs.spelled;
          tags_are = tags.spelled;
          context = refl;
        },
      );
      limits = (refl, record { few = refs.few; each = refs.each }, record { few = tags.few; each = tags.each });
      same = way_state C refs.after tags.after r.0.1 t.0.1 refs.same tags.same;
    })

way_again : (C : Context) (bytes : List ℕ) (refs : List ℤ) (tags : List Tag) (after : Context)
    → SpellsWay C bytes refs tags after → AreRefs refs → AreTags tags → way_at (reader_of C) bytes ≡
    Some (Way refs tags, reader_of after)
unfolding way_at
way_again C bytes refs tags after s r l =
    let p : part_at (s.length_bytes ++ s.part ++ s.tag_bytes) ≡ Some (s.part, s.tag_bytes) = part_again s.length_bytes s.part s.tag_bytes s.part_length in
    let read : refs_at (total C.way_nodes) s.part ≡ Some (refs, total s.way_nodes) = refs_again C.way_nodes s.part refs s.way_nodes s.refs_are r in
    let t : tags_at (table_of C.strings) s.tag_bytes ≡ Some (tags, table_of s.strings) = tags_again C.strings s.tag_bytes tags s.strings s.tags_are l in
    rw (s.whole, p, read, t, s.context) refl

relation_state : (D : Context) (ss : List Entry) (s : Reader) (table : List Entry) → s ≡ reader_of D
    → table ≡ table_of ss → record { counters = s.counters; strings = table } ≡ reader_of (with_strings D ss)
relation_state D ss s table m t = rw (m, t) refl

abbrev pub made_relation : List Member × Reader → List Tag × List Entry → What × Reader
made_relation m t = (Relation m.0 t.0, record { counters = m.1.counters; strings = t.1 })

relation_takes : (C : Context) (bytes : List ℕ) (x : What × Reader) → relation_at (reader_of C) bytes ≡ Some x → WhatSpelled kinds.Relation C bytes x.0 x.1
unfolding relation_at
relation_takes C bytes x e =
    let p = some_then (part_at bytes) (λ p. and_then (members_at (reader_of C) p.0)
    (λ m. and_then (tags_at m.1.strings p.1) (λ t. Some (made_relation m t)))) x e in
    let m = some_then (members_at (reader_of C) p.0.0) (λ m. and_then (tags_at m.1.strings p.0.1) (λ t. Some (made_relation m t))) x p.2 in
    let t = some_then (tags_at m.0.1.strings p.0.1) (λ t. Some (made_relation m.0 t)) x m.2 in
    let part = part_takes bytes p.0 p.1 in
    let members = members_take C p.0.0 m.0 m.1 in
    let tags = tags_take members.after.strings p.0.1 t.0 (subst (λ (u : Reader). tags_at u.strings p.0.1 ≡ Some t.0) members.same t.1) in
    subst (λ (q : What × Reader). WhatSpelled kinds.Relation C bytes q.0 q.1) (same_Some (made_relation m.0 t.0) x t.2)
    (record {
      after = with_strings members.after tags.after;
      spells = (
        refl,
        record {
          length_bytes = part.spelled.length_bytes;
          part = p.0.0;
          tag_bytes = p.0.1;
          then = members.after;
          strings = tags.after;
          whole = part.parts ∙ ap (λ (l : List ℕ). l ++ p.0.1) part.spelled.whole;
          part_length = part.spelled.spells;
          members_are = members.spelled;
          tags_are = tags.spelled;
          context = refl;
        },
      );
      limits = (
        refl,
        record {
          few = members.few;
          ids = are_ids m.0.0 members.each;
          roles =
              are_roles m.0.0 members.each;
        },
        record { few = tags.few; each = tags.each },
      );
      same = relation_state members.after tags.after m.0.1 t.0.1 members.same tags.same;
    })

relation_again : (C : Context) (bytes : List ℕ) (members : List Member) (tags : List Tag) (after : Context)
    → SpellsRelation C bytes members tags after → AreMembers members → AreTags tags → relation_at (reader_of C) bytes ≡
    Some (Relation members tags, reader_of after)
unfolding relation_at
relation_again C bytes members tags after s r l =
    let p : part_at (s.length_bytes ++ s.part ++ s.tag_bytes) ≡ Some (s.part, s.tag_bytes) = part_again s.length_bytes s.part s.tag_bytes s.part_length in
    let read : members_at (reader_of C) s.part ≡ Some (members, reader_of s.then) = members_again C s.part members s.then s.members_are r in
    let t : tags_at (table_of s.then.strings) s.tag_bytes ≡ Some (tags, table_of s.strings) =
    tags_again s.then.strings s.tag_bytes tags s.strings s.tags_are l in
    rw (s.whole, p, read, t, s.context) refl

shape_takes : (kind : Kind) (C : Context) (bytes : List ℕ) (x : What × Reader) → shape_at kind (reader_of C) bytes ≡ Some x → WhatSpelled kind C bytes x.0 x.1
shape_takes kinds.Node C bytes x e = node_takes C bytes x e
shape_takes kinds.Way C bytes x e = way_takes C bytes x e
shape_takes kinds.Relation C bytes x e = relation_takes C bytes x e

pub what_takes : (kind : Kind) (C : Context) (bytes : List ℕ) (x : What × Reader) → what_at kind (reader_of C) bytes ≡ Some x → WhatSpelled kind C bytes x.0 x.1
unfolding what_at
what_takes kind C [] x e =
    subst (λ (p : What × Reader). WhatSpelled kind C [] p.0 p.1) (same_Some (Deleted, reader_of C) x e)
    (record { after = C; spells = (refl, refl); limits = tt; same = refl })
what_takes kind C (b ∷ bs) x e = shape_takes kind C (b ∷ bs) x e

shape_some : (kind : Kind) (s : Reader) (bytes : List ℕ) → 0 < length bytes → what_at kind s bytes ≡ shape_at kind s bytes
unfolding what_at
shape_some kind s [] h = absurd (omega arith)
shape_some kind s (b ∷ bs) h = refl

what_none : (kind : Kind) (s : Reader) → what_at kind s [] ≡ Some (Deleted, s)
unfolding what_at
what_none kind s = refl

some_first : (bytes a b c : List ℕ) → bytes ≡ a ++ b ++ c → 0 < length a → 0 < length bytes
some_first bytes a b c e h = omega (arith, ap length e, length-append (a ++ b) c, length-append a b)

wrapped_some : (before : List ℤ) (prefix : List ℕ) (v : ℤ) (after : List ℤ) → SpellsWrapped before prefix v after → 0 < length prefix
wrapped_some before prefix v after s = number_some prefix _ s.signed.unsigned

pub what_again : (kind : Kind) (C : Context) (bytes : List ℕ) (what : What) (after : Context)
    → SpellsWhat kind C bytes what after → IsWhat kind what → what_at kind (reader_of C) bytes ≡
    Some (what, reader_of after)
what_again kind C bytes Deleted after s l = rw (s.0, s.1) (what_none kind (reader_of C))
what_again kind C bytes (Node lon lat tags) after s l =
    let n : SpellsNode C bytes lon lat tags after = s.1 in
    let some : 0 < length bytes = some_first bytes n.lon_bytes n.lat_bytes n.tag_bytes n.whole (wrapped_some C.lons n.lon_bytes lon n.lons n.longitude) in
    shape_some kind (reader_of C) bytes some ∙ ap (λ (k : Kind). shape_at k (reader_of C) bytes) s.0 ∙ node_again C bytes lon lat tags after n l.1 l.2
what_again kind C bytes (Way refs tags) after s l =
    let n : SpellsWay C bytes refs tags after = s.1 in
    let some : 0 < length bytes = some_first bytes n.length_bytes n.part n.tag_bytes n.whole (number_some n.length_bytes _ n.part_length) in
    shape_some kind (reader_of C) bytes some ∙ ap (λ (k : Kind). shape_at k (reader_of C) bytes) s.0 ∙ way_again C bytes refs tags after n l.1 l.2
what_again kind C bytes (Relation members tags) after s l =
    let n : SpellsRelation C bytes members tags after = s.1 in
    let some : 0 < length bytes = some_first bytes n.length_bytes n.part n.tag_bytes n.whole (number_some n.length_bytes _ n.part_length) in
    shape_some kind (reader_of C) bytes some ∙ ap (λ (k : Kind). shape_at k (reader_of C) bytes) s.0 ∙ relation_again C bytes members tags after n l.1 l.2

-- ---- objects

id_state : (C : Context) (ids : List ℤ) (id : ℤ) → id ≡ total ids
    → record { counters = record (counters_of C) { id = id }; strings = table_of C.strings } ≡ reader_of
    (record C { ids = ids })
id_state C ids id e = rw e refl

abbrev with_id : Reader → ℤ → Reader
with_id s id = record { counters = record s.counters { id = id }; strings = s.strings }

abbrev made_object : Kind → ℤ → MetaValue → What × Reader → ChangeValue × Reader
made_object kind id meta w = (record { key = record { kind = kind; id = id }; meta = meta; what = w.0 }, w.1)

pub record TakesObject (kind : Kind) (C : Context) (bytes : List ℕ) (c : ChangeValue) (s : Reader) : Type 0 where
  pub after : Context
  pub spells : SpellsObject C bytes c after
  pub kind_is : c.key.kind ≡ kind
  pub same : s ≡ reader_of after

pub object_takes : (kind : Kind) (C : Context) (bytes : List ℕ) (x : ChangeValue × Reader)
    → object_at kind (reader_of C) bytes ≡ Some x → TakesObject kind C bytes x.0 x.1
unfolding object_at
object_takes kind C bytes x e =
    let i = some_then (id_at (total C.ids) bytes) (λ i. and_then (meta_at (with_id (reader_of C) i.0) i.1)
    (λ m. and_then (what_at kind m.1 m.2) (λ w. Some (made_object kind i.0 m.0 w)))) x e in
    let m = some_then (meta_at (with_id (reader_of C) i.0.0) i.0.1) (λ m. and_then (what_at kind m.1 m.2) (λ w. Some (made_object kind i.0.0 m.0 w))) x i.2 in
    let w = some_then (what_at kind m.0.1 m.0.2) (λ w. Some (made_object kind i.0.0 m.0.0 w)) x m.2 in
    let id = id_takes C.ids bytes i.0 i.1 in
    let meta = meta_takes (record C { ids = id.after }) i.0.1 m.0 (subst (λ (u : Reader). meta_at u i.0.1 ≡ Some m.0)
    (id_state C id.after i.0.0 id.same) m.1) in
    let what = what_takes kind meta.after m.0.2 w.0 (subst (λ (u : Reader). what_at kind u m.0.2 ≡ Some w.0) meta.same w.1) in
    subst (λ (p : ChangeValue × Reader). TakesObject kind C bytes p.0 p.1) (same_Some (made_object kind i.0.0 m.0.0 w.0) x w.2)
    (record {
      after = what.after;
      spells = record {
        id_bytes = id.prefix;
        meta_bytes = meta.prefix;
        what_bytes = m.0.2;
        ids = id.after;
        then = meta.after;
        whole = parts_then bytes id.prefix meta.prefix i.0.1 m.0.2 id.parts meta.parts;
        id = id.spelled.spells;
        meta = meta.spelled.spelled_so;
        what = what.spells;
        limits = record { id = id.spelled.limits; meta = meta.spelled.within; what = what.limits };
      };
      kind_is = refl;
      same = what.same;
    })

pub object_again : (C : Context) (bytes : List ℕ) (c : ChangeValue) (after : Context) → SpellsObject C bytes c after
    → object_at c.key.kind (reader_of C) bytes ≡ Some (c, reader_of after)
unfolding object_at
object_again C bytes c after s =
    let id : id_at (total C.ids) (s.id_bytes ++ (s.meta_bytes ++ s.what_bytes)) ≡ Some (
      c.key.id,
      s.meta_bytes
          ++ s.what_bytes,
    ) = id_again C.ids s.id_bytes c.key.id s.ids (s.meta_bytes ++ s.what_bytes) s.id s.limits.id in
    let meta : meta_at (reader_of (record C { ids = s.ids })) (s.meta_bytes ++ s.what_bytes) ≡
    Some (c.meta, reader_of s.then, s.what_bytes) = meta_again (record C { ids = s.ids }) s.meta_bytes c.meta s.then
    s.what_bytes s.meta s.limits.meta in
    let what : what_at c.key.kind (reader_of s.then) s.what_bytes ≡ Some (c.what, reader_of after) =
    what_again c.key.kind s.then s.what_bytes c.what after s.what s.limits.what in
    let whole : bytes ≡ s.id_bytes ++ (s.meta_bytes ++ s.what_bytes) = s.whole ∙ append_assoc s.id_bytes s.meta_bytes s.what_bytes in
    rw (whole, id, id_state C s.ids c.key.id s.id.sum_is, meta, what) refl
