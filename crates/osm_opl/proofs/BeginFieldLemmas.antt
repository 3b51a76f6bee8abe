-- Fields and lines that begin with what is written of a value.
use Rattle.std.proofs.Common.{◌≡◌, ℕ, ◌+◌, ◌≤◌, List, [], ◌∷◌, ◌++◌, length, Some, refl, sym, ap, ◌∙◌}
use Rattle.std.proofs.Common.{append_assoc, arith, pos, negsuc}
use Rattle.std.specs.Prelude.{◌≢◌, ℤ, codes}
use Rattle.std.specs.List.{AllByRecursion}
use Rattle.std.proofs.lemmas.Int.{ints}
use Rattle.std.proofs.lemmas.List.{append-nil, length-append}
use Rattle.osm_model.specs.Change.{AreMembers, AreRefs, AreTags, ChangeValue, HasMemberId}
use Rattle.osm_model.specs.CivilTime.{time_text}
use Rattle.osm_model.specs.Content.{object_as}
use Rattle.osm_model.specs.Limits.{IsId, IsLatitude, IsLongitude, IsPositive}
use Rattle.osm_model.specs.Lists.{IsRole, IsTag}
use Rattle.osm_model.specs.Meta.{IsMeta, MetaValue}
use Rattle.osm_model.specs.Text.{IsText}
use Rattle.osm_model.specs.declared.change.What.{What}
use Rattle.osm_model.specs.declared.change.What.TheVariants as whats
use Rattle.osm_model.specs.declared.kind.Key.{Key}
use Rattle.osm_model.specs.declared.kind.Kind.TheVariants.{Node, Relation, Way}
use Rattle.osm_model.specs.declared.lists.Member.{Member}
use Rattle.osm_model.specs.declared.lists.Tag.{Tag}
use Rattle.osm_model.proofs.DataLemmas.{all_then}
use Rattle.osm_opl.specs.Line.{status_text}
use Rattle.osm_opl.specs.Object.{IsObjectLine}
use Rattle.osm_opl.specs.Flat.{IsMember, meta_of}
use Rattle.osm_opl.specs.Steps.Begins.{AreNumbers, Begins, BeginsWith, IsNear, IsThere, numbers_text}
use Rattle.osm_opl.specs.Written.{coordinate_field, escaped_text, items_text, key_text, line_text, member_text, members_field, meta_text}
use Rattle.osm_opl.specs.Written.{more_items, number_field, ref_text, refs_field, tag_text, tags_field, version_fields, what_text}
use Rattle.osm_opl.specs.declared.flat_parts.Numbers.{Numbers}
use Rattle.osm_opl.proofs.BeginLemmas.{begins, begins_with}

-- one text after another
join : (bytes x y a b : List ℕ) → bytes ≡ x ++ a → a ≡ y ++ b → bytes ≡ x ++ y ++ b
join bytes x y a b e f = e ∙ ap (λ (l : List ℕ). x ++ l) f ∙ sym (append_assoc x y b)

-- ---- lists

-- a mark before a text
pub marked_with : {X : Type 0} (text : X → List ℕ) (Limits : X → Type 0) (value : X) (mark whole bytes rest : List ℕ)
    → whole ≡ mark ++ bytes → BeginsWith text Limits value bytes rest → BeginsWith (λ x. mark ++ text x) Limits value whole rest
marked_with text Limits value mark whole bytes rest e h = record {
  limits = h.limits;
  parts = e ∙ ap (λ (l : List ℕ). mark ++ l) h.parts ∙ sym (append_assoc mark (text value) rest);
}

pub marked : {X : Type 0} (text : X → List ℕ) (Limits : X → Type 0) (mark whole bytes rest : List ℕ)
    → whole ≡ mark ++ bytes → Begins text Limits bytes rest → Begins (λ x. mark ++ text x) Limits whole rest
marked text Limits mark whole bytes rest e h =
    begins (λ x. mark ++ text x) Limits h.value whole rest
    (marked_with text Limits h.value mark whole bytes rest e (begins_with text Limits bytes rest h))

-- the items so far
pub record ItemsWith {X : Type 0} (text : X → List ℕ) (Limits : X → Type 0) (items : List X) (bytes rest : List ℕ) : Type 0 where
  pub parts : bytes ≡ items_text text items ++ rest
  pub each : AllByRecursion Limits items
  pub some : 1 ≤ length items

pub record ItemsBegin {X : Type 0} (text : X → List ℕ) (Limits : X → Type 0) (bytes rest : List ℕ) (count : ℕ) : Type 0 where
  pub items : List X
  pub begin : ItemsWith text Limits items bytes rest
  pub number : length items ≡ count

pub first_with : {X : Type 0} (text : X → List ℕ) (Limits : X → Type 0) (x : X) (bytes rest : List ℕ)
    → BeginsWith text Limits x bytes rest → ItemsWith text Limits (x ∷ []) bytes rest
first_with text Limits x bytes rest h = record {
  parts = h.parts ∙ ap (λ (l : List ℕ). l ++ rest) (sym (append-nil (text x)));
  each = (h.limits, tt);
  some = omega arith;
}

pub first_begins : {X : Type 0} (text : X → List ℕ) (Limits : X → Type 0) (bytes rest : List ℕ)
    → Begins text Limits bytes rest → ItemsBegin text Limits bytes rest 1
first_begins text Limits bytes rest h = record {
  items = h.value ∷ [];
  begin = first_with text Limits h.value bytes rest (begins_with text Limits bytes rest h);
  number = refl;
}

more_push : {X : Type 0} (text : X → List ℕ) (xs : List X) (x : X) → more_items text (xs ++ x ∷ []) ≡ more_items text xs ++ 44 ∷ text x
more_push text [] x = ap (λ (l : List ℕ). 44 ∷ l) (append-nil (text x))
more_push text (y ∷ ys) x = ap (λ (l : List ℕ). 44 ∷ text y ++ l) (more_push text ys x)
    ∙ sym (append_assoc (44 ∷ text y) (more_items text ys) (44 ∷ text x))

items_push : {X : Type 0} (text : X → List ℕ) (xs : List X) (x : X) → 1 ≤ length xs
    → items_text text (xs ++ x ∷ []) ≡ items_text text xs ++ 44 ∷ text x
items_push text [] x some = absurd (omega arith)
items_push text (y ∷ ys) x some = ap (λ (l : List ℕ). text y ++ l) (more_push text ys x)
    ∙ sym (append_assoc (text y) (more_items text ys) (44 ∷ text x))

pub next_with : {X : Type 0} (text : X → List ℕ) (Limits : X → Type 0) (items : List X) (x : X) (bytes rest after next : List ℕ)
    → ItemsWith text Limits items bytes rest → rest ≡ 44 ∷ after → BeginsWith text Limits x after next
    → ItemsWith text Limits (items ++ x ∷ []) bytes next
next_with text Limits items x bytes rest after next h comma one =
    let some : 1 ≤ length items = h.some in
    let more : length (items ++ x ∷ []) ≡ length items + 1 = length-append items (x ∷ []) in
    let push : items_text text (items ++ x ∷ []) ≡ items_text text items ++ 44 ∷ text x = items_push text items x some in
    let step : rest ≡ 44 ∷ (text x ++ next) = comma ∙ ap (λ (l : List ℕ). 44 ∷ l) one.parts in
    record {
      parts = h.parts ∙ ap (λ (l : List ℕ). items_text text items ++ l) step
          ∙ sym (append_assoc (items_text text items) (44 ∷ text x) next)
          ∙ ap (λ (l : List ℕ). l ++ next) (sym push);
      each = all_then Limits items x h.each one.limits;
      some = omega arith;
    }

pub next_begins : {X : Type 0} (text : X → List ℕ) (Limits : X → Type 0) (bytes rest after next : List ℕ) (count : ℕ)
    → ItemsBegin text Limits bytes rest count → rest ≡ 44 ∷ after → Begins text Limits after next
    → ItemsBegin text Limits bytes next (count + 1)
next_begins text Limits bytes rest after next count h comma one =
    let number : length h.items ≡ count = h.number in
    let more : length (h.items ++ one.value ∷ []) ≡ length h.items + 1 = length-append h.items (one.value ∷ []) in
    record {
      items = h.items ++ one.value ∷ [];
      begin = next_with text Limits h.items one.value bytes rest after next h.begin comma (begins_with text Limits after next one);
      number = omega arith;
    }

pub tags_with : (tags : List Tag) (bytes rest : List ℕ) → ItemsWith tag_text IsTag tags bytes rest → length tags ≤ 5000
    → BeginsWith (items_text tag_text) AreTags tags bytes rest
tags_with tags bytes rest h few = record { limits = record { few = few; each = h.each }; parts = h.parts }

pub tags_begin : (bytes rest : List ℕ) (count : ℕ) → ItemsBegin tag_text IsTag bytes rest count → count ≤ 5000
    → Begins (items_text tag_text) AreTags bytes rest
tags_begin bytes rest count h few =
    begins (items_text tag_text) AreTags h.items bytes rest (tags_with h.items bytes rest h.begin (omega (arith, h.number, few)))

pub refs_with : (refs : List ℤ) (bytes rest : List ℕ) → ItemsWith ref_text IsId refs bytes rest → length refs ≤ 32000
    → BeginsWith (items_text ref_text) AreRefs refs bytes rest
refs_with refs bytes rest h few = record { limits = record { few = few; each = h.each }; parts = h.parts }

pub refs_begin : (bytes rest : List ℕ) (count : ℕ) → ItemsBegin ref_text IsId bytes rest count → count ≤ 32000
    → Begins (items_text ref_text) AreRefs bytes rest
refs_begin bytes rest count h few =
    begins (items_text ref_text) AreRefs h.items bytes rest (refs_with h.items bytes rest h.begin (omega (arith, h.number, few)))

ids_of : (members : List Member) → AllByRecursion IsMember members → AllByRecursion HasMemberId members
ids_of [] h = tt
ids_of (m ∷ ms) h = (h.0.id, ids_of ms h.1)

roles_of : (members : List Member) → AllByRecursion IsMember members → AllByRecursion IsRole members
roles_of [] h = tt
roles_of (m ∷ ms) h = (h.0.role, roles_of ms h.1)

pub members_with : (members : List Member) (bytes rest : List ℕ) → ItemsWith member_text IsMember members bytes rest
    → length members ≤ 32000 → BeginsWith (items_text member_text) AreMembers members bytes rest
members_with members bytes rest h few = record {
  limits = record { few = few; ids = ids_of members h.each; roles = roles_of members h.each };
  parts = h.parts;
}

pub members_begin : (bytes rest : List ℕ) (count : ℕ) → ItemsBegin member_text IsMember bytes rest count → count ≤ 32000
    → Begins (items_text member_text) AreMembers bytes rest
members_begin bytes rest count h few =
    begins (items_text member_text) AreMembers h.items bytes rest (members_with h.items bytes rest h.begin (omega (arith, h.number, few)))

pub no_tags : (whole rest : List ℕ) → whole ≡ codes " T" ++ rest → BeginsWith tags_field AreTags [] whole rest
no_tags whole rest e = record { limits = record { few = omega arith; each = tt }; parts = e }

pub no_refs : (whole rest : List ℕ) → whole ≡ codes " N" ++ rest → BeginsWith refs_field AreRefs [] whole rest
no_refs whole rest e = record { limits = record { few = omega arith; each = tt }; parts = e }

pub no_members : (whole rest : List ℕ) → whole ≡ codes " M" ++ rest → BeginsWith members_field AreMembers [] whole rest
no_members whole rest e = record { limits = record { few = omega arith; ids = tt; roles = tt }; parts = e }

-- ---- items

pub tag_with : (key value bytes mid after rest : List ℕ) → BeginsWith escaped_text IsText key bytes mid → mid ≡ codes "=" ++ after
    → BeginsWith escaped_text IsText value after rest → BeginsWith tag_text IsTag (record { key = key; value = value }) bytes rest
tag_with key value bytes mid after rest k e v = record {
  limits = record { key = k.limits; value = v.limits };
  parts = k.parts ∙ ap (λ (l : List ℕ). escaped_text key ++ l) (e ∙ ap (λ (l : List ℕ). 61 ∷ l) v.parts)
      ∙ sym (append_assoc (escaped_text key) (61 ∷ escaped_text value) rest);
}

pub tag_begins : (bytes mid after rest : List ℕ) → Begins escaped_text IsText bytes mid → mid ≡ codes "=" ++ after
    → Begins escaped_text IsText after rest → Begins tag_text IsTag bytes rest
tag_begins bytes mid after rest k e v =
    begins tag_text IsTag (record { key = k.value; value = v.value }) bytes rest
    (tag_with k.value v.value bytes mid after rest (begins_with escaped_text IsText bytes mid k) e
    (begins_with escaped_text IsText after rest v))

pub member_with : (role bytes mid after rest : List ℕ) (key : Key) → bytes ≡ key_text key ++ mid → IsId key.id
    → mid ≡ codes "@" ++ after → BeginsWith escaped_text IsText role after rest
    → BeginsWith member_text IsMember (record { key = key; role = role }) bytes rest
member_with role bytes mid after rest key k is e r = record {
  limits = record { id = is; role = r.limits };
  parts = k ∙ ap (λ (l : List ℕ). key_text key ++ l) (e ∙ ap (λ (l : List ℕ). 64 ∷ l) r.parts)
      ∙ sym (append_assoc (key_text key) (64 ∷ escaped_text role) rest);
}

pub member_begins : (bytes mid after rest : List ℕ) (key : Key) → bytes ≡ key_text key ++ mid → IsId key.id
    → mid ≡ codes "@" ++ after → Begins escaped_text IsText after rest → Begins member_text IsMember bytes rest
member_begins bytes mid after rest key k is e r =
    begins member_text IsMember (record { key = key; role = r.value }) bytes rest
    (member_with r.value bytes mid after rest key k is e (begins_with escaped_text IsText after rest r))

-- ---- the metadata

pub numbers_begin : (n : Numbers) (bytes a b c d e f rest : List ℕ)
    → BeginsWith (number_field (codes " v")) IsPositive n.version bytes a → a ≡ codes " dV" ++ b
    → BeginsWith (number_field (codes " c")) IsPositive n.changeset b c → c ≡ codes " t" ++ d
    → BeginsWith time_text IsPositive n.time d e → BeginsWith (number_field (codes " i")) IsPositive n.uid e f
    → f ≡ codes " u" ++ rest → BeginsWith numbers_text AreNumbers n bytes rest
numbers_begin n bytes a b c d e f rest version visible changeset mark time uid u = record {
  limits = record { version = version.limits; time = time.limits; changeset = changeset.limits; uid = uid.limits };
  parts =
      let V = number_field (codes " v") n.version in
      let C = number_field (codes " c") n.changeset in
      let t : List ℕ = time_text n.time in
      let I = number_field (codes " i") n.uid in
      let first : bytes ≡ V ++ codes " dV" ++ C ++ c =
      join bytes (V ++ codes " dV") C b c (join bytes V (codes " dV") a b version.parts visible) changeset.parts in
      let timed : c ≡ codes " t" ++ t ++ I ++ f =
      join c (codes " t" ++ t) I e f (join c (codes " t") t d e mark time.parts) uid.parts in
      join bytes (V ++ codes " dV" ++ C) (codes " t" ++ t ++ I ++ codes " u") c rest first
      (join c (codes " t" ++ t ++ I) (codes " u") f rest timed u);
}

name_last : (a b u name rest : List ℕ) → a ++ (b ++ u) ++ name ++ rest ≡ a ++ (b ++ (u ++ name)) ++ rest
name_last a b u name rest = simp append_assoc

pub head_with : (n : Numbers) (user bytes mid rest : List ℕ) → BeginsWith numbers_text AreNumbers n bytes mid
    → BeginsWith escaped_text IsText user mid rest → BeginsWith (meta_text (codes "V")) IsMeta (meta_of n user) bytes rest
head_with n user bytes mid rest numbers name = record {
  limits = record {
    version = numbers.limits.version;
    time = numbers.limits.time;
    changeset = numbers.limits.changeset;
    uid = numbers.limits.uid;
    user = name.limits;
  };
  parts = join bytes (numbers_text n) (escaped_text user) mid rest numbers.parts name.parts
      ∙ name_last (version_fields (codes "V") (meta_of n user)) ((codes " t" ++ time_text n.time) ++ number_field (codes " i") n.uid)
      (codes " u") (escaped_text user) rest;
}

pub head_begins : (n : Numbers) (bytes mid rest : List ℕ) → BeginsWith numbers_text AreNumbers n bytes mid
    → Begins escaped_text IsText mid rest → Begins (meta_text (codes "V")) IsMeta bytes rest
head_begins n bytes mid rest numbers name =
    begins (meta_text (codes "V")) IsMeta (meta_of n name.value) bytes rest
    (head_with n name.value bytes mid rest numbers (begins_with escaped_text IsText mid rest name))

-- ---- what the object is

near_longitude : (z : ℤ) → IsNear 1800000000 z → IsLongitude z
near_longitude (pos n) h = record { low = omega (arith, ints, h); high = omega (arith, ints, h) }
near_longitude (negsuc n) h = record { low = omega (arith, ints, h); high = omega (arith, ints, h) }

near_latitude : (z : ℤ) → IsNear 900000000 z → IsLatitude z
near_latitude (pos n) h = record { low = omega (arith, ints, h); high = omega (arith, ints, h) }
near_latitude (negsuc n) h = record { low = omega (arith, ints, h); high = omega (arith, ints, h) }

pub node_with : (tags : List Tag) (lon lat : ℤ) (bytes a b rest : List ℕ) → BeginsWith tags_field AreTags tags bytes a
    → BeginsWith (coordinate_field (codes " x")) (IsNear 1800000000) lon a b
    → BeginsWith (coordinate_field (codes " y")) (IsNear 900000000) lat b rest
    → BeginsWith (what_text Node) (IsThere Node) (whats.Node lon lat tags) bytes rest
node_with tags lon lat bytes a b rest t x y = record {
  limits = record {
    limits = (refl, record { longitude = near_longitude lon x.limits; latitude = near_latitude lat y.limits }, t.limits);
    left = λ e. cc;
  };
  parts = join bytes (tags_field tags ++ coordinate_field (codes " x") lon) (coordinate_field (codes " y") lat) b rest
      (join bytes (tags_field tags) (coordinate_field (codes " x") lon) a b t.parts x.parts) y.parts;
}

pub node_begins : (lon lat : ℤ) (bytes a b rest : List ℕ) → Begins tags_field AreTags bytes a
    → BeginsWith (coordinate_field (codes " x")) (IsNear 1800000000) lon a b
    → BeginsWith (coordinate_field (codes " y")) (IsNear 900000000) lat b rest
    → Begins (what_text Node) (IsThere Node) bytes rest
node_begins lon lat bytes a b rest tags x y =
    begins (what_text Node) (IsThere Node) (whats.Node lon lat tags.value) bytes rest
    (node_with tags.value lon lat bytes a b rest (begins_with tags_field AreTags bytes a tags) x y)

pub way_with : (tags : List Tag) (refs : List ℤ) (bytes a rest : List ℕ) → BeginsWith tags_field AreTags tags bytes a
    → BeginsWith refs_field AreRefs refs a rest
    → BeginsWith (what_text Way) (IsThere Way) (whats.Way refs tags) bytes rest
way_with tags refs bytes a rest t n = record {
  limits = record { limits = (refl, n.limits, t.limits); left = λ e. cc };
  parts = join bytes (tags_field tags) (refs_field refs) a rest t.parts n.parts;
}

pub way_begins : (bytes a rest : List ℕ) → Begins tags_field AreTags bytes a → Begins refs_field AreRefs a rest
    → Begins (what_text Way) (IsThere Way) bytes rest
way_begins bytes a rest tags refs =
    begins (what_text Way) (IsThere Way) (whats.Way refs.value tags.value) bytes rest
    (way_with tags.value refs.value bytes a rest (begins_with tags_field AreTags bytes a tags) (begins_with refs_field AreRefs a rest refs))

pub relation_with : (tags : List Tag) (members : List Member) (bytes a rest : List ℕ) → BeginsWith tags_field AreTags tags bytes a
    → BeginsWith members_field AreMembers members a rest
    → BeginsWith (what_text Relation) (IsThere Relation) (whats.Relation members tags) bytes rest
relation_with tags members bytes a rest t m = record {
  limits = record { limits = (refl, m.limits, t.limits); left = λ e. cc };
  parts = join bytes (tags_field tags) (members_field members) a rest t.parts m.parts;
}

pub relation_begins : (bytes a rest : List ℕ) → Begins tags_field AreTags bytes a → Begins members_field AreMembers a rest
    → Begins (what_text Relation) (IsThere Relation) bytes rest
relation_begins bytes a rest tags members =
    begins (what_text Relation) (IsThere Relation) (whats.Relation members.value tags.value) bytes rest
    (relation_with tags.value members.value bytes a rest (begins_with tags_field AreTags bytes a tags)
    (begins_with members_field AreMembers a rest members))

-- ---- the line

visible_status : (what : What) → what ≢ whats.Deleted → status_text what ≡ codes "V"
visible_status (whats.Node lon lat tags) h = refl
visible_status (whats.Way refs tags) h = refl
visible_status (whats.Relation members tags) h = refl
visible_status whats.Deleted h = absurd (h refl)

pub is_left : (c : ChangeValue) (what : What) → what ≢ whats.Deleted → object_as c what ≡ Some c
is_left c (whats.Node lon lat tags) h = refl
is_left c (whats.Way refs tags) h = refl
is_left c (whats.Relation members tags) h = refl
is_left c whats.Deleted h = absurd (h refl)

nothing : (bytes : List ℕ) → length bytes ≡ 0 → bytes ≡ []
nothing [] e = refl
nothing (b ∷ bs) e = absurd (omega arith)

pub line_with : (line a b rest : List ℕ) (key : Key) (meta : MetaValue) (what : What) → line ≡ key_text key ++ a
    → BeginsWith (meta_text (codes "V")) IsMeta meta a b → BeginsWith (what_text key.kind) (IsThere key.kind) what b rest
    → length rest ≡ 0 → line ≡ line_text (record { key = key; meta = meta; what = what })
unfolding line_text
line_with line a b rest key meta what k m w none =
    let status : status_text what ≡ codes "V" = visible_status what w.limits.left in
    let M : List ℕ = meta_text (codes "V") meta in
    let W : List ℕ = what_text key.kind what in
    let text : line ≡ key_text key ++ M ++ W ++ rest = join line (key_text key ++ M) W b rest (join line (key_text key) M a b k m.parts) w.parts in
    let whole : line ≡ key_text key ++ M ++ W = text ∙ ap (λ (l : List ℕ). key_text key ++ M ++ W ++ l) (nothing rest none)
    ∙ append-nil (key_text key ++ M ++ W) in
    whole ∙ ap (λ (s : List ℕ). key_text key ++ meta_text s meta ++ W) (sym status)

pub line_is : (line a b rest : List ℕ) (key : Key) → line ≡ key_text key ++ a → IsId key.id
    → Begins (meta_text (codes "V")) IsMeta a b → Begins (what_text key.kind) (IsThere key.kind) b rest
    → length rest ≡ 0 → IsObjectLine line key
line_is line a b rest key k is head what none =
    let object : ChangeValue = record { key = key; meta = head.value; what = what.value } in
    record {
      object = object;
      limits = record { id = is; meta = head.limits; what = what.limits.limits };
      left = is_left object what.value what.limits.left;
      named = refl;
      text = line_with line a b rest key head.value what.value k (begins_with (meta_text (codes "V")) IsMeta a b head)
          (begins_with (what_text key.kind) (IsThere key.kind) b rest what) none;
    }
