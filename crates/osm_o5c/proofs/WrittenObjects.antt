-- What is written for an object spells it, and the counters change as in its context.
use Rattle.std.proofs.Common.{◌≡◌, ℕ, ◌^◌, ◌<◌, ◌≤◌, List, [], ◌∷◌, ◌++◌, length, refl, sym, subst, arith}
use Rattle.std.specs.Prelude.{ℤ, pos, neg_ℤ, ◌-ℤ◌, ◌≤ℤ◌}
use Rattle.std.proofs.lemmas.Int.{ints}
use Rattle.std.proofs.lemmas.List.{length-append}
use Rattle.osm_model.specs.Change.{ChangeValue, IsChange, IsWhat, AreTags, AreRefs, AreMembers}
use Rattle.osm_model.specs.Limits.{IsId, IsPositive, IsLocation}
use Rattle.osm_model.specs.Meta.{MetaValue, IsMeta}
use Rattle.osm_model.specs.declared.kind.Kind.{Kind}
use Rattle.osm_model.specs.declared.kind.Kind.TheVariants as kinds
use Rattle.osm_model.specs.declared.change.What.{What}
use Rattle.osm_model.specs.declared.change.What.TheVariants.{Node, Way, Relation, Deleted}
use Rattle.osm_model.specs.declared.lists.Member.{Member}
use Rattle.osm_model.specs.declared.lists.Tag.{Tag}
use Rattle.osm_o5c.specs.Number.{zigzag}
use Rattle.osm_o5c.specs.Context.{Context, total, with_strings}
use Rattle.osm_o5c.specs.Object.{SpellsMeta, SpellsWhat, SpellsObject}
use Rattle.osm_o5c.specs.Written.{number_text, difference_text, pair_text, after_pair, part_text, tags_text, refs_text}
use Rattle.osm_o5c.specs.Written.{last_ref, members_text, after_members, meta_text, what_text, after_what, after_meta}
use Rattle.osm_o5c.specs.Written.{object_text, after_object}
use Rattle.osm_o5c.specs.Shortest.{IsShortestMeta, IsShortestWhat, IsShortestObject}
use Rattle.osm_o5c.specs.declared.counters.Counters.{Counters}
use Rattle.osm_o5c.specs.declared.strings.Entry.{Entry}
use Rattle.osm_o5c.specs.declared.writer.State.{State}
use Rattle.osm_o5c.proofs.CounterLemmas.{wrapped_total}
use Rattle.osm_o5c.proofs.FieldLemmas.{counters_of}
use Rattle.osm_o5c.proofs.WrittenNumbers.{number_spells, number_short, number_no_nul, fewest_bytes, SumWritten}
use Rattle.osm_o5c.proofs.WrittenNumbers.{sum_written, sum_after, WrappedWritten, wrapped_written, wrapped_after}
use Rattle.osm_o5c.proofs.KnownLemmas.{IsKnown, PairWritten, pair_written, pair_short}
use Rattle.osm_o5c.proofs.WrittenLists.{Bounds, IsState, TagsWritten, tags_spell, tags_short, RefsWritten, refs_spell}
use Rattle.osm_o5c.proofs.WrittenLists.{refs_short, last_is_id, ids_apart, MembersWritten, members_spell, members_short}

-- ---- metadata

positive_small : (n : ℕ) → IsPositive n → n < 2 ^ 64
positive_small n p = let h : n < 2 ^ 32 = p.high in omega arith

counts_apart : (a : ℤ) (n : ℕ) → pos 0 ≤ℤ a → a ≤ℤ pos 4294967295 → IsPositive n
    → (neg_ℤ (pos 9223372036854775808) ≤ℤ (pos n -ℤ a)) × ((pos n -ℤ a) ≤ℤ pos 9223372036854775807)
counts_apart a n low high p = let h : n < 2 ^ 32 = p.high in (omega (arith, ints), omega (arith, ints))

-- the state of a writer in a context, with these strings entered
abbrev state_of : Context → List (List ℕ) → State
state_of C strings = record { counters = counters_of C; strings = strings }

-- the context after these metadata, with these strings in line
abbrev meta_context : Context → MetaValue → List Entry → Context
meta_context C m ss = record C {
  times = C.times ++ (pos m.time -ℤ total C.times) ∷ [];
  changesets = C.changesets ++ (pos m.changeset -ℤ total C.changesets) ∷ [];
  strings = ss;
}

record MetaWritten (C : Context) (strings : List (List ℕ)) (m : MetaValue) : Type 0 where
  after : List Entry
  spells : SpellsMeta C (meta_text (state_of C strings) m) m (meta_context C m after)
  known : IsKnown after (after_pair strings (number_text m.uid) m.user)
  shortest : IsShortestMeta spells

meta_spells : (C : Context) (strings : List (List ℕ)) (m : MetaValue) → IsKnown C.strings strings → Bounds (counters_of C) → IsMeta m → MetaWritten C strings m
meta_spells C strings m known b l =
    let near = counts_apart (total C.times) m.time b.time_low b.time_high l.time in
    let apart = counts_apart (total C.changesets) m.changeset b.changeset_low b.changeset_high l.changeset in
    let time : SumWritten C.times (total C.times) (pos m.time) = sum_written C.times (pos m.time) near.0 near.1 in
    let changeset : SumWritten C.changesets (total C.changesets) (pos m.changeset) = sum_written C.changesets (pos m.changeset) apart.0 apart.1 in
    let user : PairWritten C.strings strings (number_text m.uid) m.user =
    pair_written C.strings strings (number_text m.uid) m.user known (number_no_nul m.uid l.uid.low) l.user.no_nul in
    record {
      after = user.after;
      spells = record {
        version_bytes = number_text m.version;
        time_bytes = difference_text (total C.times) (pos m.time);
        changeset_bytes = difference_text (total C.changesets) (pos m.changeset);
        user_bytes = pair_text strings (number_text m.uid) m.user;
        times = C.times ++ (pos m.time -ℤ total C.times) ∷ [];
        changesets = C.changesets ++ (pos m.changeset -ℤ total C.changesets) ∷ [];
        strings = user.after;
        whole = refl;
        version = number_spells m.version (positive_small m.version l.version);
        time = time.spells;
        changeset = changeset.spells;
        user = record {
          first = number_text m.uid;
          pair = user.spells;
          number = number_spells m.uid (positive_small m.uid l.uid);
        };
        context = refl;
      };
      known = user.known;
      shortest = ((λ other s. fewest_bytes other m.version s), time.shortest, changeset.shortest, user.shortest, (λ other s. fewest_bytes other m.uid s));
    }

meta_short : (s : State) (m : MetaValue) → IsMeta m → length (meta_text s m) ≤ 1073
meta_short s m l =
    let user : length m.user ≤ 1020 = l.user.short in
    omega (
      arith,
      number_short m.version,
      number_short (zigzag (pos m.time -ℤ s.counters.time)),
      number_short (zigzag (pos m.changeset -ℤ s.counters.changeset)),
      number_short m.uid,
      pair_short s.strings (number_text m.uid) m.user,
      length-append (number_text m.version ++ difference_text s.counters.time (pos m.time)
          ++ difference_text s.counters.changeset (pos m.changeset)) (pair_text s.strings (number_text m.uid) m.user),
      length-append (number_text m.version ++ difference_text s.counters.time (pos m.time)) (difference_text s.counters.changeset (pos m.changeset)),
      length-append (number_text m.version) (difference_text s.counters.time (pos m.time)),
    )

-- ---- what an object is

record WhatWritten (kind : Kind) (C : Context) (s : State) (what : What) : Type 0 where
  after : Context
  spells : SpellsWhat kind C (what_text s what) what after
  state_is : IsState after (after_what s what)
  bounds : Bounds (after_what s what).counters
  shortest : IsShortestWhat kind C (what_text s what) what after spells

location_counters : (C : Context) (lons lats : List ℤ) (ss : List Entry) (lon lat : ℤ) → wrapped_total lons ≡ lon
    → wrapped_total lats ≡ lat → counters_of (record C { lons = lons; lats = lats; strings = ss }) ≡
    record (counters_of C) { lon = lon; lat = lat }
location_counters C lons lats ss lon lat x y = rw (x, y) refl

bounds_location : (s : Counters) (lon lat : ℤ) → Bounds s → Bounds (record s { lon = lon; lat = lat })
bounds_location s lon lat b = record {
  id = b.id;
  time_low = b.time_low;
  time_high = b.time_high;
  changeset_low =
      b.changeset_low;
  changeset_high = b.changeset_high;
  way_node = b.way_node;
  node_member = b.node_member;
  way_member =
      b.way_member;
  relation_member = b.relation_member;
}

node_written : (kind : Kind) (C : Context) (strings : List (List ℕ)) (lon lat : ℤ) (tags : List Tag)
    → IsKnown C.strings strings → Bounds (counters_of C) → kind ≡ kinds.Node → IsLocation lon lat → AreTags tags
    → WhatWritten kind C (state_of C strings) (Node lon lat tags)
node_written kind C strings lon lat tags known b k p l =
    let lonl = p.longitude.low in
    let lonh = p.longitude.high in
    let latl = p.latitude.low in
    let lath = p.latitude.high in
    let lows : neg_ℤ (pos 2147483648) ≤ℤ lon = omega (arith, ints) in
    let highs : lon ≤ℤ pos 2147483647 = omega (arith, ints) in
    let lowt : neg_ℤ (pos 2147483648) ≤ℤ lat = omega (arith, ints) in
    let hight : lat ≤ℤ pos 2147483647 = omega (arith, ints) in
    let x : WrappedWritten C.lons (wrapped_total C.lons) lon = wrapped_written C.lons lon lows highs in
    let y : WrappedWritten C.lats (wrapped_total C.lats) lat = wrapped_written C.lats lat lowt hight in
    let t : TagsWritten C.strings strings tags = tags_spell C.strings strings tags known l.each in
    record {
      after = record C {
        lons = C.lons ++ (lon -ℤ wrapped_total C.lons) ∷ [];
        lats = C.lats ++ (lat -ℤ wrapped_total C.lats) ∷ [];
        strings = t.after;
      };
      spells = (
        k,
        record {
          lon_bytes = difference_text (wrapped_total C.lons) lon;
          lat_bytes = difference_text (wrapped_total C.lats) lat;
          tag_bytes = tags_text strings tags;
          lons = C.lons ++ (lon -ℤ wrapped_total C.lons) ∷ [];
          lats = C.lats ++ (lat -ℤ wrapped_total C.lats) ∷ [];
          strings = t.after;
          whole = refl;
          longitude = x.spells;
          latitude = y.spells;
          tags_are = t.spells;
          context = refl;
        },
      );
      state_is = record {
        counters_are = location_counters C (C.lons ++ (lon -ℤ wrapped_total C.lons) ∷ [])
            (C.lats ++ (lat -ℤ wrapped_total C.lats) ∷ []) t.after lon lat (wrapped_after C.lons lon lows highs)
            (wrapped_after C.lats lat lowt hight);
        known = t.known;
      };
      bounds = bounds_location (counters_of C) lon lat b;
      shortest = (x.shortest, y.shortest, t.shortest);
    }

way_counters : (C : Context) (nodes : List ℤ) (ss : List Entry) (last : ℤ) → total nodes ≡ last
    → counters_of (record C { way_nodes = nodes; strings = ss }) ≡ record (counters_of C) { way_node = last }
way_counters C nodes ss last e = rw e refl

bounds_way : (s : Counters) (last : ℤ) → Bounds s → IsId last → Bounds (record s { way_node = last })
bounds_way s last b h = record {
  id = b.id;
  time_low = b.time_low;
  time_high = b.time_high;
  changeset_low =
      b.changeset_low;
  changeset_high = b.changeset_high;
  way_node = h;
  node_member = b.node_member;
  way_member =
      b.way_member;
  relation_member = b.relation_member;
}

way_written : (kind : Kind) (C : Context) (strings : List (List ℕ)) (refs : List ℤ) (tags : List Tag)
    → IsKnown C.strings strings → Bounds (counters_of C) → kind ≡ kinds.Way → AreRefs refs → AreTags tags
    → WhatWritten kind C (state_of C strings) (Way refs tags)
way_written kind C strings refs tags known b k r l =
    let w : RefsWritten C.way_nodes refs = refs_spell C.way_nodes refs b.way_node r.each in
    let t : TagsWritten C.strings strings tags = tags_spell C.strings strings tags known l.each in
    let few : length refs ≤ 32000 = r.few in
    record {
      after = record C { way_nodes = w.after; strings = t.after };
      spells = (
        k,
        record {
          length_bytes = number_text (length (refs_text (total C.way_nodes) refs));
          part = refs_text (total C.way_nodes) refs;
          tag_bytes = tags_text strings tags;
          way_nodes = w.after;
          strings = t.after;
          whole = refl;
          part_length = number_spells (length (refs_text (total C.way_nodes) refs)) (omega (arith, refs_short (total C.way_nodes) refs));
          refs_are = w.spells;
          tags_are = t.spells;
          context = refl;
        },
      );
      state_is = record {
        counters_are = way_counters C w.after t.after (last_ref (total C.way_nodes) refs) w.last;
        known = t.known;
      };
      bounds = bounds_way (counters_of C) (last_ref (total C.way_nodes) refs) b (last_is_id (total C.way_nodes) refs b.way_node r.each);
      shortest = ((λ other s. fewest_bytes other (length (refs_text (total C.way_nodes) refs)) s), w.shortest, t.shortest);
    }

relation_written : (kind : Kind) (C : Context) (strings : List (List ℕ)) (members : List Member) (tags : List Tag)
    → IsKnown C.strings strings → Bounds (counters_of C) → kind ≡ kinds.Relation → AreMembers members → AreTags tags
    → WhatWritten kind C (state_of C strings) (Relation members tags)
relation_written kind C strings members tags known b k r l =
    let w : MembersWritten C (state_of C strings) members = members_spell C (state_of C strings) members
    (record { counters_are = refl; known = known }) b r.ids r.roles in
    let entered : List (List ℕ) = (after_members (state_of C strings) members).strings in
    let t : TagsWritten w.after.strings entered tags = tags_spell w.after.strings entered tags w.state_is.known l.each in
    let few : length members ≤ 32000 = r.few in
    record {
      after = with_strings w.after t.after;
      spells = (
        k,
        record {
          length_bytes = number_text (length (members_text (state_of C strings) members));
          part = members_text (state_of C strings) members;
          tag_bytes = tags_text entered tags;
          then = w.after;
          strings = t.after;
          whole = refl;
          part_length = number_spells (length (members_text (state_of C strings) members)) (omega (arith, members_short (state_of C strings) members r.roles));
          members_are = w.spells;
          tags_are = t.spells;
          context = refl;
        },
      );
      state_is = record { counters_are = w.state_is.counters_are; known = t.known };
      bounds = w.bounds;
      shortest = ((λ other s. fewest_bytes other (length (members_text (state_of C strings) members)) s), w.shortest, t.shortest);
    }

what_written : (kind : Kind) (C : Context) (strings : List (List ℕ)) (what : What) → IsKnown C.strings strings
    → Bounds (counters_of C) → IsWhat kind what → WhatWritten kind C (state_of C strings) what
what_written kind C strings Deleted known b l = record {
  after = C;
  spells = (refl, refl);
  state_is =
      record { counters_are = refl; known = known };
  bounds = b;
  shortest = tt;
}
what_written kind C strings (Node lon lat tags) known b l = node_written kind C strings lon lat tags known b l.0 l.1 l.2
what_written kind C strings (Way refs tags) known b l = way_written kind C strings refs tags known b l.0 l.1 l.2
what_written kind C strings (Relation members tags) known b l = relation_written kind C strings members tags known b l.0 l.1 l.2

what_short : (kind : Kind) (s : State) (what : What) → IsWhat kind what → length (what_text s what) ≤ 50000000
what_short kind s Deleted l = omega arith
what_short kind s (Node lon lat tags) l =
    let few : length tags ≤ 5000 = l.2.few in
    omega (
      arith,
      tags_short s.strings tags l.2.each,
      number_short (zigzag (lon -ℤ s.counters.lon)),
      number_short (zigzag (lat -ℤ s.counters.lat)),
      length-append (difference_text s.counters.lon lon
          ++ difference_text s.counters.lat lat) (tags_text s.strings tags),
      length-append (difference_text s.counters.lon lon) (difference_text s.counters.lat lat),
    )
what_short kind s (Way refs tags) l =
    let few : length tags ≤ 5000 = l.2.few in
    let fewr : length refs ≤ 32000 = l.1.few in
    omega (
      arith,
      tags_short s.strings tags l.2.each,
      refs_short s.counters.way_node refs,
      number_short (length (refs_text s.counters.way_node refs)),
      length-append (part_text (refs_text s.counters.way_node refs)) (tags_text s.strings tags),
      length-append (number_text (length (refs_text s.counters.way_node refs))) (refs_text s.counters.way_node refs),
    )
what_short kind s (Relation members tags) l =
    let few : length tags ≤ 5000 = l.2.few in
    let fewm : length members ≤ 32000 = l.1.few in
    omega (
      arith,
      tags_short (after_members s members).strings tags l.2.each,
      members_short s members l.1.roles,
      number_short (length (members_text s members)),
      length-append (part_text (members_text s members))
          (tags_text (after_members s members).strings tags),
      length-append (number_text (length (members_text s members))) (members_text s members),
    )

-- ---- objects

pub record ObjectWritten (C : Context) (s : State) (c : ChangeValue) : Type 0 where
  pub after : Context
  pub spells : SpellsObject C (object_text s c) c after
  pub state_is : IsState after (after_object s c)
  pub bounds : Bounds (after_object s c).counters
  pub shortest : IsShortestObject spells

-- the context after this id
abbrev id_context : Context → ℤ → Context
id_context C id = record C { ids = C.ids ++ (id -ℤ total C.ids) ∷ [] }

meta_counters : (C : Context) (strings : List (List ℕ)) (c : ChangeValue) (ss : List Entry)
    → counters_of (meta_context (id_context C c.key.id) c.meta ss) ≡ (after_meta (state_of C strings) c).counters
meta_counters C strings c ss = rw (sum_after C.ids c.key.id, sum_after C.times (pos c.meta.time), sum_after C.changesets (pos c.meta.changeset)) refl

id_bounds : (C : Context) (id : ℤ) → Bounds (counters_of C) → IsId id → Bounds (counters_of (id_context C id))
id_bounds C id b h = record {
  id = subst IsId (sym (sum_after C.ids id)) h;
  time_low = b.time_low;
  time_high =
      b.time_high;
  changeset_low = b.changeset_low;
  changeset_high = b.changeset_high;
  way_node = b.way_node;
  node_member = b.node_member;
  way_member = b.way_member;
  relation_member = b.relation_member;
}

meta_bounds : (s : State) (c : ChangeValue) → Bounds s.counters → IsChange c → Bounds (after_meta s c).counters
meta_bounds s c b l =
    let time : c.meta.time < 2 ^ 32 = l.meta.time.high in
    let changeset : c.meta.changeset < 2 ^ 32 = l.meta.changeset.high in
    record {
      id = l.id;
      time_low = omega (arith, ints);
      time_high = omega (arith, ints);
      changeset_low =
          omega (arith, ints);
      changeset_high = omega (arith, ints);
      way_node = b.way_node;
      node_member = b.node_member;
      way_member = b.way_member;
      relation_member = b.relation_member;
    }

object_at_context : (C : Context) (strings : List (List ℕ)) (c : ChangeValue) → IsKnown C.strings strings
    → Bounds (counters_of C) → IsChange c → ObjectWritten C (state_of C strings) c
object_at_context C strings c known b l =
    let near = ids_apart (total C.ids) c.key.id b.id l.id in
    let id : SumWritten C.ids (total C.ids) c.key.id = sum_written C.ids c.key.id near.0 near.1 in
    let m : MetaWritten (id_context C c.key.id) strings c.meta =
    meta_spells (id_context C c.key.id) strings c.meta known (id_bounds C c.key.id b l.id) l.meta in
    let then : Context = meta_context (id_context C c.key.id) c.meta m.after in
    let entered : List (List ℕ) = after_pair strings (number_text c.meta.uid) c.meta.user in
    let is : counters_of then ≡ (after_meta (state_of C strings) c).counters = meta_counters C strings c m.after in
    let at : WhatWritten c.key.kind then (state_of then entered) c.what =
    what_written c.key.kind then entered c.what m.known
    (subst Bounds (sym is) (meta_bounds (state_of C strings) c b l)) l.what in
    let w : WhatWritten c.key.kind then (after_meta (state_of C strings) c) c.what =
    subst (λ (k : Counters). WhatWritten c.key.kind then (record { counters = k; strings = entered }) c.what) is
    at in
    record {
      after = w.after;
      spells = record {
        id_bytes = difference_text (total C.ids) c.key.id;
        meta_bytes = meta_text (state_of C strings) c.meta;
        what_bytes = what_text (after_meta (state_of C strings) c) c.what;
        ids = C.ids ++ (c.key.id -ℤ total C.ids) ∷ [];
        then = then;
        whole = refl;
        id = id.spells;
        meta = m.spells;
        what = w.spells;
        limits = l;
      };
      state_is = w.state_is;
      bounds = w.bounds;
      shortest = (id.shortest, m.shortest, w.shortest);
    }

pub object_written : (C : Context) (s : State) (c : ChangeValue) → IsState C s → Bounds s.counters → IsChange c → ObjectWritten C s c
object_written C s c st b l = subst (λ (k : Counters). ObjectWritten C (record { counters = k; strings = s.strings }) c)
    st.counters_are (object_at_context C s.strings c st.known (subst Bounds (sym st.counters_are) b) l)

pub object_short : (s : State) (c : ChangeValue) → IsChange c → length (object_text s c) < 2 ^ 64
object_short s c l =
    omega (
      arith,
      number_short (zigzag (c.key.id -ℤ s.counters.id)),
      meta_short s c.meta l.meta,
      what_short c.key.kind (after_meta s c) c.what l.what,
      length-append (difference_text s.counters.id c.key.id ++ meta_text s c.meta) (what_text (after_meta s c) c.what),
      length-append (difference_text s.counters.id c.key.id) (meta_text s c.meta),
    )
