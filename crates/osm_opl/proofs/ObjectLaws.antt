-- What a line says about its object, a node, a way, a relation or a deletion: what is read is spelled, and
-- what is spelled is read.
use Rattle.std.proofs.Common.{◌≡◌, ℕ, Bool, true, false, cond, List, [], ◌∷◌, Option, Some, None, refl, sym, ap, subst, ◌∙◌}
use Rattle.std.specs.Prelude.{ℤ}
use Rattle.std.proofs.lemmas.Option.{same_Some}
use Rattle.osm_model.specs.Change.{IsWhat, AreTags, AreRefs, AreMembers}
use Rattle.osm_model.specs.Limits.{IsId}
use Rattle.osm_model.specs.Lists.{IsTag}
use Rattle.osm_model.specs.declared.change.What.{What}
use Rattle.osm_model.specs.declared.change.What.TheVariants as whats
use Rattle.osm_model.specs.declared.kind.Kind.{Kind}
use Rattle.osm_model.specs.declared.kind.Kind.TheVariants.{Node, Way, Relation}
use Rattle.osm_model.specs.declared.lists.Member.{Member}
use Rattle.osm_model.specs.declared.lists.Tag.{Tag}
use Rattle.osm_opl.specs.Line.{SpellsWhat, node, way, relation, deleted_node, deleted_way, deleted_relation, status_text}
use Rattle.osm_opl.specs.Lists.{SpellsList, SpellsTag, SpellsRef, SpellsMember}
use Rattle.osm_opl.specs.Written.{visible_text}
use Rattle.osm_opl.specs.Reading.{field_at, last_field_at, list_at, member_at, node_at, node_of}
use Rattle.osm_opl.specs.Reading.{maybe_coordinate_at, ref_at, relation_at, tag_at, way_at, what_at}
use Rattle.osm_reading.specs.Answers.{and_then}
use Rattle.osm_reading.proofs.StepLemmas.{some_then}
use Rattle.osm_opl.specs.Flat.{IsMember}
use Rattle.osm_opl.proofs.ListLaws.{TakesList, list_takes, list_again, members_split, members_join, members_read, refs_read, tags_read}
use Rattle.osm_opl.proofs.FieldLaws.{field_takes, field_again, last_field_takes, last_field_again}
use Rattle.osm_opl.proofs.CoordinateLaws.{IsCoordinateText, maybe_coordinate_takes, maybe_coordinate_again}
use Rattle.osm_opl.proofs.CoordinateLaws.{longitude_text, latitude_text, longitude_read, latitude_read}

-- ---- what is read is spelled

pub record TakesWhat (kind : Kind) (fields : List (List ℕ)) (what : What) (is_visible : Bool) : Type 0 where
  pub spells : SpellsWhat kind fields what
  pub limits : IsWhat kind what
  pub status : status_text what ≡ visible_text is_visible

are_tags : (bytes : List ℕ) (tags : List Tag) → TakesList SpellsTag IsTag 5000 bytes tags → AreTags tags
are_tags bytes tags h = record { few = h.few; each = h.each }

are_refs : (bytes : List ℕ) (refs : List ℤ) → TakesList SpellsRef IsId 32000 bytes refs → AreRefs refs
are_refs bytes refs h = record { few = h.few; each = h.each }

are_members : (bytes : List ℕ) (members : List Member) → TakesList SpellsMember IsMember 32000 bytes members → AreMembers members
are_members bytes members h = let r = members_split members h.each in record { few = h.few; ids = r.0; roles = r.1 }

node_made : (is_visible : Bool) (t x y : List ℕ) (tags : List Tag) (lon lat : Option ℤ) (w : What)
    → TakesList SpellsTag IsTag 5000 t tags → IsCoordinateText 1800000000 x lon → IsCoordinateText 900000000 y lat
    → node_of is_visible lon lat tags ≡ Some w → TakesWhat Node ((84 ∷ t) ∷ (120 ∷ x) ∷ (121 ∷ y) ∷ []) w is_visible
node_made false t x y tags lon lat w ts hx hy e =
    let same : whats.Deleted ≡ w = same_Some whats.Deleted w e in
    rw (← same) (record {
      spells = deleted_node t x y tags ts.spells (are_tags t tags ts) (longitude_text x lon hx)
          (latitude_text y lat hy);
      limits = tt;
      status = refl;
    })
node_made true t x y tags (Some lon) (Some lat) w ts hx hy e =
    let made : What = whats.Node lon lat tags in
    let same : made ≡ w = same_Some made w e in
    let Q : What → Type 0 = λ v. TakesWhat Node ((84 ∷ t) ∷ (120 ∷ x) ∷ (121 ∷ y) ∷ []) v true in
    subst Q same (record {
      spells = node t x y tags lon lat ts.spells hx.spells hy.spells;
      limits = (
        refl,
        record {
          longitude = record { low = hx.low; high = hx.high };
          latitude =
              record { low = hy.low; high = hy.high };
        },
        are_tags t tags ts,
      );
      status = refl;
    })
node_made true t x y tags (Some lon) None w ts hx hy e = absurd cc
node_made true t x y tags None lat w ts hx hy e = absurd cc

node_takes : (is_visible : Bool) (fields : List (List ℕ)) (w : What) → node_at is_visible fields ≡ Some w → TakesWhat Node fields w is_visible
unfolding node_at
node_takes is_visible fields w e =
    let t = some_then (field_at 84 fields) (λ (t : List ℕ × List (List ℕ)). and_then {A = List Tag} {B = What}
    (list_at tag_at 5000 t.0) (λ (tags : List Tag). and_then {A = List ℕ × List (List ℕ)} {B = What}
    (field_at 120 t.1) (λ (x : List ℕ × List (List ℕ)). and_then {A = Option ℤ} {B = What}
    (maybe_coordinate_at 1800000000 x.0) (λ (lon : Option ℤ). and_then {A = List ℕ} {B = What}
    (last_field_at 121 x.1) (λ (y : List ℕ). and_then {A = Option ℤ} {B = What} (maybe_coordinate_at 900000000 y)
    (λ (lat : Option ℤ). node_of is_visible lon lat tags)))))) w e in
    let tags = some_then (list_at tag_at 5000 t.0.0) (λ (tags : List Tag). and_then {A = List ℕ × List (List ℕ)} {B =
    What} (field_at 120 t.0.1) (λ (x : List ℕ × List (List ℕ)). and_then {A = Option ℤ} {B = What}
    (maybe_coordinate_at 1800000000 x.0) (λ (lon : Option ℤ). and_then {A = List ℕ} {B = What}
    (last_field_at 121 x.1) (λ (y : List ℕ). and_then {A = Option ℤ} {B = What} (maybe_coordinate_at 900000000 y)
    (λ (lat : Option ℤ). node_of is_visible lon lat tags))))) w t.2 in
    let x = some_then (field_at 120 t.0.1) (λ (x : List ℕ × List (List ℕ)). and_then {A = Option ℤ} {B = What}
    (maybe_coordinate_at 1800000000 x.0) (λ (lon : Option ℤ). and_then {A = List ℕ} {B = What}
    (last_field_at 121 x.1) (λ (y : List ℕ). and_then {A = Option ℤ} {B = What} (maybe_coordinate_at 900000000 y)
    (λ (lat : Option ℤ). node_of is_visible lon lat tags.0)))) w tags.2 in
    let lon = some_then (maybe_coordinate_at 1800000000 x.0.0) (λ (lon : Option ℤ). and_then {A = List ℕ} {B = What}
    (last_field_at 121 x.0.1) (λ (y : List ℕ). and_then {A = Option ℤ} {B = What} (maybe_coordinate_at 900000000 y)
    (λ (lat : Option ℤ). node_of is_visible lon lat tags.0))) w x.2 in
    let y = some_then (last_field_at 121 x.0.1) (λ (y : List ℕ). and_then {A = Option ℤ} {B = What}
    (maybe_coordinate_at 900000000 y) (λ (lat : Option ℤ). node_of is_visible lon.0 lat tags.0)) w lon.2 in
    let lat = some_then (maybe_coordinate_at 900000000 y.0) (λ (lat : Option ℤ). node_of is_visible lon.0 lat tags.0) w y.2 in
    let ts = list_takes tag_at SpellsTag IsTag tags_read 5000 t.0.0 tags.0 tags.1 in
    let ft : fields ≡ (84 ∷ t.0.0) ∷ t.0.1 = field_takes 84 fields t.0.0 t.0.1 t.1 in
    let fx : t.0.1 ≡ (120 ∷ x.0.0) ∷ x.0.1 = field_takes 120 t.0.1 x.0.0 x.0.1 x.1 in
    let fy : x.0.1 ≡ (121 ∷ y.0) ∷ [] = last_field_takes 121 x.0.1 y.0 y.1 in
    let whole : fields ≡ (84 ∷ t.0.0) ∷ (120 ∷ x.0.0) ∷ (121 ∷ y.0) ∷ [] =
    ft ∙ ap (λ (l : List (List ℕ)). (84 ∷ t.0.0) ∷ l) (fx ∙ ap (λ (l : List (List ℕ)). (120 ∷ x.0.0) ∷ l) fy) in
    let made = node_made is_visible t.0.0 x.0.0 y.0 tags.0 lon.0 lat.0 w ts
    (maybe_coordinate_takes 1800000000 x.0.0 lon.0 lon.1) (maybe_coordinate_takes 900000000 y.0 lat.0 lat.1)
    lat.2 in
    let Q : List (List ℕ) → Type 0 = λ l. TakesWhat Node l w is_visible in
    subst Q (sym whole) made

way_made : (is_visible : Bool) (t n : List ℕ) (tags : List Tag) (refs : List ℤ) (w : What)
    → TakesList SpellsTag IsTag 5000 t tags → TakesList SpellsRef IsId 32000 n refs
    → Some (cond is_visible (whats.Way refs tags) whats.Deleted) ≡ Some w
    → TakesWhat Way ((84 ∷ t) ∷ (78 ∷ n) ∷ []) w is_visible
way_made false t n tags refs w ts rs e =
    let same : whats.Deleted ≡ w = same_Some whats.Deleted w e in
    rw (← same) (record { spells = deleted_way t n tags refs ts.spells (are_tags t tags ts) rs.spells (are_refs n refs rs); limits = tt; status = refl })
way_made true t n tags refs w ts rs e =
    let made : What = whats.Way refs tags in
    let same : made ≡ w = same_Some made w e in
    let Q : What → Type 0 = λ v. TakesWhat Way ((84 ∷ t) ∷ (78 ∷ n) ∷ []) v true in
    subst Q same (record { spells = way t n tags refs ts.spells rs.spells; limits = (refl, are_refs n refs rs, are_tags t tags ts); status = refl })

way_takes : (is_visible : Bool) (fields : List (List ℕ)) (w : What) → way_at is_visible fields ≡ Some w → TakesWhat Way fields w is_visible
unfolding way_at
way_takes is_visible fields w e =
    let t = some_then (field_at 84 fields) (λ (t : List ℕ × List (List ℕ)). and_then {A = List Tag} {B = What}
    (list_at tag_at 5000 t.0) (λ (tags : List Tag). and_then {A = List ℕ} {B = What} (last_field_at 78 t.1)
    (λ (n : List ℕ). and_then {A = List ℤ} {B = What} (list_at ref_at 32000 n)
    (λ (refs : List ℤ). Some (cond is_visible (whats.Way refs tags) whats.Deleted))))) w e in
    let tags = some_then (list_at tag_at 5000 t.0.0) (λ (tags : List Tag). and_then {A = List ℕ} {B = What}
    (last_field_at 78 t.0.1) (λ (n : List ℕ). and_then {A = List ℤ} {B = What} (list_at ref_at 32000 n)
    (λ (refs : List ℤ). Some (cond is_visible (whats.Way refs tags) whats.Deleted)))) w t.2 in
    let n = some_then (last_field_at 78 t.0.1) (λ (n : List ℕ). and_then {A = List ℤ} {B = What}
    (list_at ref_at 32000 n) (λ (refs : List ℤ). Some (cond is_visible (whats.Way refs tags.0) whats.Deleted))) w
    tags.2 in
    let refs = some_then (list_at ref_at 32000 n.0) (λ (refs : List ℤ). Some (cond is_visible (whats.Way refs tags.0) whats.Deleted)) w n.2 in
    let ts = list_takes tag_at SpellsTag IsTag tags_read 5000 t.0.0 tags.0 tags.1 in
    let rs = list_takes ref_at SpellsRef IsId refs_read 32000 n.0 refs.0 refs.1 in
    let ft : fields ≡ (84 ∷ t.0.0) ∷ t.0.1 = field_takes 84 fields t.0.0 t.0.1 t.1 in
    let fn : t.0.1 ≡ (78 ∷ n.0) ∷ [] = last_field_takes 78 t.0.1 n.0 n.1 in
    let whole : fields ≡ (84 ∷ t.0.0) ∷ (78 ∷ n.0) ∷ [] = ft ∙ ap (λ (l : List (List ℕ)). (84 ∷ t.0.0) ∷ l) fn in
    let made = way_made is_visible t.0.0 n.0 tags.0 refs.0 w ts rs refs.2 in
    let Q : List (List ℕ) → Type 0 = λ l. TakesWhat Way l w is_visible in
    subst Q (sym whole) made

relation_made : (is_visible : Bool) (t m : List ℕ) (tags : List Tag) (members : List Member) (w : What)
    → TakesList SpellsTag IsTag 5000 t tags → TakesList SpellsMember IsMember 32000 m members
    → Some (cond is_visible (whats.Relation members tags) whats.Deleted) ≡ Some w
    → TakesWhat Relation ((84 ∷ t) ∷ (77 ∷ m) ∷ []) w is_visible
relation_made false t m tags members w ts ms e =
    let same : whats.Deleted ≡ w = same_Some whats.Deleted w e in
    rw (← same) (record {
      spells = deleted_relation t m tags members ts.spells (are_tags t tags ts) ms.spells
          (are_members m members ms);
      limits = tt;
      status = refl;
    })
relation_made true t m tags members w ts ms e =
    let made : What = whats.Relation members tags in
    let same : made ≡ w = same_Some made w e in
    let Q : What → Type 0 = λ v. TakesWhat Relation ((84 ∷ t) ∷ (77 ∷ m) ∷ []) v true in
    subst Q same (record {
      spells = relation t m tags members ts.spells ms.spells;
      limits =
          (refl, are_members m members ms, are_tags t tags ts);
      status = refl;
    })

relation_takes : (is_visible : Bool) (fields : List (List ℕ)) (w : What) → relation_at is_visible fields ≡ Some w → TakesWhat Relation fields w is_visible
unfolding relation_at
relation_takes is_visible fields w e =
    let t = some_then (field_at 84 fields) (λ (t : List ℕ × List (List ℕ)). and_then {A = List Tag} {B = What}
    (list_at tag_at 5000 t.0) (λ (tags : List Tag). and_then {A = List ℕ} {B = What} (last_field_at 77 t.1)
    (λ (m : List ℕ). and_then {A = List Member} {B = What} (list_at member_at 32000 m)
    (λ (members : List Member). Some (cond is_visible (whats.Relation members tags) whats.Deleted))))) w e in
    let tags = some_then (list_at tag_at 5000 t.0.0) (λ (tags : List Tag). and_then {A = List ℕ} {B = What}
    (last_field_at 77 t.0.1) (λ (m : List ℕ). and_then {A = List Member} {B = What} (list_at member_at 32000 m)
    (λ (members : List Member). Some (cond is_visible (whats.Relation members tags) whats.Deleted)))) w t.2 in
    let m = some_then (last_field_at 77 t.0.1) (λ (m : List ℕ). and_then {A = List Member} {B = What}
    (list_at member_at 32000 m)
    (λ (members : List Member). Some (cond is_visible (whats.Relation members tags.0) whats.Deleted))) w tags.2 in
    let members =
    some_then (list_at member_at 32000 m.0)
    (λ (members : List Member). Some (cond is_visible (whats.Relation members tags.0) whats.Deleted)) w m.2 in
    let ts = list_takes tag_at SpellsTag IsTag tags_read 5000 t.0.0 tags.0 tags.1 in
    let ms = list_takes member_at SpellsMember IsMember members_read 32000 m.0 members.0 members.1 in
    let ft : fields ≡ (84 ∷ t.0.0) ∷ t.0.1 = field_takes 84 fields t.0.0 t.0.1 t.1 in
    let fm : t.0.1 ≡ (77 ∷ m.0) ∷ [] = last_field_takes 77 t.0.1 m.0 m.1 in
    let whole : fields ≡ (84 ∷ t.0.0) ∷ (77 ∷ m.0) ∷ [] = ft ∙ ap (λ (l : List (List ℕ)). (84 ∷ t.0.0) ∷ l) fm in
    let made = relation_made is_visible t.0.0 m.0 tags.0 members.0 w ts ms members.2 in
    let Q : List (List ℕ) → Type 0 = λ l. TakesWhat Relation l w is_visible in
    subst Q (sym whole) made

pub what_takes : (kind : Kind) (is_visible : Bool) (fields : List (List ℕ)) (w : What)
    → what_at kind is_visible fields ≡ Some w → TakesWhat kind fields w is_visible
what_takes Node is_visible fields w e = node_takes is_visible fields w e
what_takes Way is_visible fields w e = way_takes is_visible fields w e
what_takes Relation is_visible fields w e = relation_takes is_visible fields w e

-- ---- what is spelled is read

pub is_standing : What → Bool
is_standing whats.Deleted = false
is_standing what = true

tags_again : (t : List ℕ) (tags : List Tag) → SpellsList SpellsTag t tags → AreTags tags → list_at tag_at 5000 t ≡ Some tags
tags_again t tags h limits = list_again tag_at SpellsTag IsTag tags_read 5000 t tags h limits.few limits.each

refs_again : (n : List ℕ) (refs : List ℤ) → SpellsList SpellsRef n refs → AreRefs refs → list_at ref_at 32000 n ≡ Some refs
refs_again n refs h limits = list_again ref_at SpellsRef IsId refs_read 32000 n refs h limits.few limits.each

members_again : (m : List ℕ) (members : List Member) → SpellsList SpellsMember m members → AreMembers members → list_at member_at 32000 m ≡ Some members
members_again m members h limits = list_again member_at SpellsMember IsMember members_read 32000 m members h limits.few
    (members_join members limits.ids limits.roles)

pub what_again : (kind : Kind) (fields : List (List ℕ)) (w : What) → SpellsWhat kind fields w → IsWhat kind w → what_at kind (is_standing w) fields ≡ Some w
unfolding node_at way_at relation_at is_standing
what_again _ _ _ (node t x y tags lon lat ts hx hy) limits =
    let a : maybe_coordinate_at 1800000000 x ≡ Some (Some lon) =
    maybe_coordinate_again 1800000000 x lon (record {
      spells = hx;
      low = limits.1.longitude.low;
      high =
          limits.1.longitude.high;
    }) in
    let b : maybe_coordinate_at 900000000 y ≡ Some (Some lat) =
    maybe_coordinate_again 900000000 y lat (record {
      spells = hy;
      low = limits.1.latitude.low;
      high =
          limits.1.latitude.high;
    }) in
    rw (field_again 84 t ((120 ∷ x) ∷ (121 ∷ y) ∷ []), tags_again t tags ts limits.2, field_again 120 x ((121 ∷ y) ∷ []), a, last_field_again 121 y, b) refl
what_again _ _ _ (way t n tags refs ts rs) limits =
    rw (field_again 84 t ((78 ∷ n) ∷ []), tags_again t tags ts limits.2, last_field_again 78 n, refs_again n refs rs limits.1) refl
what_again _ _ _ (relation t m tags members ts ms) limits =
    rw (field_again 84 t ((77 ∷ m) ∷ []), tags_again t tags ts limits.2, last_field_again 77 m, members_again m members ms limits.1) refl
what_again _ _ _ (deleted_node t x y tags ts are hx hy) limits =
    let a = longitude_read x hx in
    let b = latitude_read y hy in
    rw (
      field_again 84 t ((120 ∷ x) ∷ (121 ∷ y) ∷ []),
      tags_again t tags ts are,
      field_again 120 x ((121 ∷ y) ∷ []),
      a.read,
      last_field_again 121 y,
      b.read,
    ) refl
what_again _ _ _ (deleted_way t n tags refs ts are rs within) limits =
    rw (field_again 84 t ((78 ∷ n) ∷ []), tags_again t tags ts are, last_field_again 78 n, refs_again n refs rs within) refl
what_again _ _ _ (deleted_relation t m tags members ts are ms within) limits =
    rw (field_again 84 t ((77 ∷ m) ∷ []), tags_again t tags ts are, last_field_again 77 m, members_again m members ms within) refl

pub status_is : (w : What) → status_text w ≡ visible_text (is_standing w)
unfolding is_standing
status_is (whats.Node lon lat tags) = refl
status_is (whats.Way refs tags) = refl
status_is (whats.Relation members tags) = refl
status_is whats.Deleted = refl
