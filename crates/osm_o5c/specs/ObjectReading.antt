-- The object that bytes hold, and the reader after it.
use Rattle.std.specs.Prelude.{ℕ, zero, suc, ◌==◌, List, [], ◌∷◌, Option, Some, None, if◌then◌else◌}
use Rattle.std.specs.Prelude.{ℤ, pos, ◌+ℤ◌}
use Rattle.osm_model.specs.Change.{ChangeValue}
use Rattle.osm_model.specs.Limits.{max_tags, max_refs}
use Rattle.osm_model.specs.Meta.{MetaValue}
use Rattle.osm_model.specs.declared.kind.Kind.{Kind}
use Rattle.osm_model.specs.declared.kind.Kind.TheVariants as kinds
use Rattle.osm_model.specs.declared.change.What.{What}
use Rattle.osm_model.specs.declared.change.What.TheVariants.{Node, Way, Relation, Deleted}
use Rattle.osm_model.specs.declared.lists.Member.{Member}
use Rattle.osm_model.specs.declared.lists.Tag.{Tag}
use Rattle.osm_reading.specs.Answers.{and_then, when}
use Rattle.osm_o5c.specs.Written.{member_counter, with_member_counter}
use Rattle.osm_o5c.specs.NumberReading.{signed_at, positive_at, positive_sum_at, id_at}
use Rattle.osm_o5c.specs.NumberReading.{longitude_at, latitude_at, part_at, is_id}
use Rattle.osm_o5c.specs.StringReading.{single_at, user_at, tag_at, text_of}
use Rattle.osm_o5c.specs.declared.reader.Reader.{Reader}
use Rattle.osm_o5c.specs.declared.strings.Entry.{Entry}

-- a list up to the end of the bytes, of at most this many parts
unfoldable pub many_at : {State A : Type 0} → (State → List ℕ → Option (A × State × List ℕ)) → ℕ
    → State → List ℕ → Option (List A × State)
many_at one most s [] = Some ([], s)
many_at one zero s (b ∷ bs) = None
many_at one (suc k) s (b ∷ bs) = and_then (one s (b ∷ bs)) (λ x.
    and_then (many_at one k x.1 x.2) (λ m. Some (x.0 ∷ m.0, m.1)))

unfoldable pub meta_at : Reader → List ℕ → Option (MetaValue × Reader × List ℕ)
meta_at s bytes = and_then (positive_at bytes) (λ v.
    and_then (positive_sum_at s.counters.time v.1) (λ t.
    and_then (positive_sum_at s.counters.changeset t.1) (λ c.
    and_then (user_at s.strings c.1) (λ u.
    Some (
      record { version = v.0; time = t.0; changeset = c.0; uid = u.0.0; user = u.0.1 },
      record {
        counters = record s.counters { time = pos t.0; changeset = pos c.0 };
        strings = u.1;
      },
      u.2,
    )))))

abbrev pub tags_at : List Entry → List ℕ → Option (List Tag × List Entry)
tags_at = many_at tag_at max_tags

-- a reference, which is also the counter after it
unfoldable pub ref_at : ℤ → List ℕ → Option (ℤ × ℤ × List ℕ)
ref_at before bytes = and_then (id_at before bytes) (λ r. Some (r.0, r.0, r.1))

abbrev pub refs_at : ℤ → List ℕ → Option (List ℤ × ℤ)
refs_at = many_at ref_at max_refs

abbrev pub kind_of_digit : ℕ → Option Kind
kind_of_digit b =
    if b == 48 then Some kinds.Node else (if b == 49 then Some kinds.Way
    else (if b == 50 then Some kinds.Relation else None))

-- the kind that the first byte names, and the role
unfoldable pub role_of : List ℕ → Option (Kind × List ℕ)
role_of [] = None
role_of (b ∷ bs) = and_then (kind_of_digit b)
    (λ kind. and_then (text_of bs) (λ role. Some (kind, role)))

unfoldable pub member_at : Reader → List ℕ → Option (Member × Reader × List ℕ)
member_at s bytes = and_then (signed_at bytes) (λ d.
    and_then (single_at s.strings d.1) (λ t.
    and_then (role_of t.0) (λ r.
    when (is_id (member_counter r.0 s.counters +ℤ d.0)) (Some (
      record {
        key = record { kind = r.0; id = member_counter r.0 s.counters +ℤ d.0 };
        role = r.1;
      },
      record {
        counters = with_member_counter r.0 s.counters (member_counter r.0 s.counters +ℤ d.0);
        strings = t.1;
      },
      t.2,
    )))))

abbrev pub members_at : Reader → List ℕ → Option (List Member × Reader)
members_at = many_at member_at max_refs

unfoldable pub node_at : Reader → List ℕ → Option (What × Reader)
node_at s bytes = and_then (longitude_at s.counters.lon bytes) (λ x.
    and_then (latitude_at s.counters.lat x.1) (λ y.
    and_then (tags_at s.strings y.1) (λ t.
    Some (
      Node x.0 y.0 t.0,
      record {
        counters = record s.counters { lon = x.0; lat = y.0 };
        strings = t.1;
      },
    ))))

unfoldable pub way_at : Reader → List ℕ → Option (What × Reader)
way_at s bytes = and_then (part_at bytes) (λ p.
    and_then (refs_at s.counters.way_node p.0) (λ r.
    and_then (tags_at s.strings p.1) (λ t.
    Some (
      Way r.0 t.0,
      record {
        counters = record s.counters { way_node = r.1 };
        strings = t.1;
      },
    ))))

unfoldable pub relation_at : Reader → List ℕ → Option (What × Reader)
relation_at s bytes = and_then (part_at bytes) (λ p.
    and_then (members_at s p.0) (λ m.
    and_then (tags_at m.1.strings p.1) (λ t.
    Some (Relation m.0 t.0, record { counters = m.1.counters; strings = t.1 }))))

abbrev pub shape_at : Kind → Reader → List ℕ → Option (What × Reader)
shape_at kinds.Node = node_at
shape_at kinds.Way = way_at
shape_at kinds.Relation = relation_at

-- what an object of this kind is; a deletion if no bytes are left
unfoldable pub what_at : Kind → Reader → List ℕ → Option (What × Reader)
what_at kind s [] = Some (Deleted, s)
what_at kind s (b ∷ bs) = shape_at kind s (b ∷ bs)

-- the change that the content of an object holds
unfoldable pub object_at : Kind → Reader → List ℕ → Option (ChangeValue × Reader)
object_at kind s bytes = and_then (id_at s.counters.id bytes) (λ i.
    and_then (meta_at
    (record { counters = record s.counters { id = i.0 }; strings = s.strings }) i.1) (λ m.
    and_then (what_at kind m.1 m.2) (λ w.
    Some (record { key = record { kind = kind; id = i.0 }; meta = m.0; what = w.0 }, w.1))))
