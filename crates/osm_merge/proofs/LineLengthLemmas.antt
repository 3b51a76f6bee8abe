-- How long the line of an object is at most. A text has at most 1,020 bytes, and each is written with at most four.
use Rattle.std.proofs.Common.{◌≡◌, ℕ, zero, suc, ◌+◌, ◌*◌, ◌/◌, ◌%◌, ◌^◌, ◌≤◌, Bool, true, false, List, [], ◌∷◌, ◌++◌, length}
use Rattle.std.proofs.Common.{ℤ, pos, negsuc, arith, mul-suc}
use Rattle.std.specs.Prelude.{◌==◌, if◌then◌else◌, decimal, unsigned_abs}
use Rattle.std.specs.Fmt.{sign_text, signed_decimal}
use Rattle.std.specs.Int.{is_negative}
use Rattle.std.specs.List.{AllByRecursion}
use Rattle.std.proofs.lemmas.Fmt.{length-decimal-le}
use Rattle.std.proofs.lemmas.Int.{ints}
use Rattle.std.proofs.lemmas.List.{length-append}
use Rattle.osm_model.specs.Change.{AreMembers, ChangeValue, AreRefs, AreTags, IsWhat}
use Rattle.osm_model.specs.CivilTime.{time_text}
use Rattle.osm_model.specs.Limits.{IsId, IsPositive}
use Rattle.osm_model.specs.Lists.{IsTag}
use Rattle.osm_model.specs.Meta.{IsMeta, MetaValue}
use Rattle.osm_model.specs.Text.{IsText}
use Rattle.osm_model.specs.declared.change.What.{What}
use Rattle.osm_model.specs.declared.change.What.TheVariants as whats
use Rattle.osm_model.specs.declared.kind.Key.{Key}
use Rattle.osm_model.specs.declared.kind.Kind.{Kind}
use Rattle.osm_model.specs.declared.kind.Kind.TheVariants.{Node, Relation, Way}
use Rattle.osm_model.specs.declared.lists.Member.{Member}
use Rattle.osm_model.specs.declared.lists.Tag.{Tag}
use Rattle.osm_opl.specs.Line.{status_text}
use Rattle.osm_opl.specs.Written.{coordinate_text, decimals, escaped_text, fraction_text}
use Rattle.osm_opl.specs.Written.{items_text, key_text, line_text, member_text, members_field, meta_text}
use Rattle.osm_opl.specs.Written.{more_items, ref_text, refs_field, tag_text, tags_field, what_text}
use Rattle.osm_opl.specs.Flat.{IsMember}
use Rattle.osm_opl.proofs.ListLaws.{members_join}
use Rattle.osm_mirror.specs.Mirror.{IsObject}
use Rattle.osm_blocks.specs.Places.{max_line}
use Rattle.osm_save.proofs.KeyLengthLemmas.{either, escaped_short}

-- ---- texts

text_short : (text : List ℕ) → IsText text → length (escaped_text text) ≤ 4080
text_short text is = omega (arith, is.short, escaped_short text is.utf8)

-- ---- numbers

number_short : (n : ℕ) → IsPositive n → length (decimal n) ≤ 10
number_short n is = length-decimal-le 10 n (omega arith) (omega (arith, is.high)) (omega (arith, is.high))

id_short : (id : ℤ) → IsId id → length (signed_decimal id) ≤ 20
id_short (pos n) is = omega (arith, length-decimal-le 19 n (omega arith) (omega (arith, ints, is.high)) (omega (arith, ints, is.high)))
id_short (negsuc n) is = omega (arith, length-decimal-le 19 (suc n) (omega arith) (omega (arith, ints, is.low)) (omega (arith, ints, is.low)))

time_short : (time : ℕ) → length (time_text time) ≤ 20
unfolding time_text
time_short time = omega arith

decimals_short : (k n : ℕ) → length (decimals k n) ≤ k
unfolding decimals
decimals_short zero n = omega arith
decimals_short (suc k) n =
    either (n == 0) (suc k) [] ((48 + n / 10 ^ k) ∷ decimals k (n % 10 ^ k)) (omega arith) (omega (arith, decimals_short k (n % 10 ^ k)))

fraction_short : (n : ℕ) → length (fraction_text n) ≤ 8
fraction_short n = either (n == 0) 8 [] (46 ∷ decimals 7 n) (omega arith) (omega (arith, decimals_short 7 n))

sign_short : (t : Bool) → length (sign_text t) ≤ 1
sign_short true = omega arith
sign_short false = omega arith

coordinate_short : (units : ℤ) → unsigned_abs units ≤ 1800000000 → length (coordinate_text units) ≤ 12
unfolding coordinate_text
coordinate_short units small =
    let whole : length (decimal (unsigned_abs units / 10 ^ 7)) ≤ 3 =
    length-decimal-le 3 (unsigned_abs units / 10 ^ 7) (omega arith) (omega arith) (omega arith) in
    simp length-append (omega (arith, whole, sign_short (is_negative units), fraction_short (unsigned_abs units % 10 ^ 7)))

-- ---- lists

-- so many items, each with a comma
module _ {X : Type 0} (text : X → List ℕ) (Limits : X → Type 0) (most : ℕ) (each : (x : X) → Limits x → length (text x) ≤ most) where
  more_short : (xs : List X) → AllByRecursion Limits xs → length (more_items text xs) ≤ (most + 1) * length xs
  more_short [] all = omega arith
  more_short (x ∷ xs) all = simp (length-append, mul-suc) (omega (arith, each x all.0, more_short xs all.1))

  items_short : (xs : List X) → AllByRecursion Limits xs → length (items_text text xs) ≤ (most + 1) * length xs
  items_short [] all = omega arith
  items_short (x ∷ xs) all = omega (arith, more_short (x ∷ xs) all)

tag_short : (t : Tag) → IsTag t → length (tag_text t) ≤ 8161
tag_short t is = simp length-append (omega (arith, text_short t.key is.key, text_short t.value is.value))

ref_short : (id : ℤ) → IsId id → length (ref_text id) ≤ 21
ref_short id is = omega (arith, id_short id is)

key_short : (key : Key) → IsId key.id → length (key_text key) ≤ 21
key_short key is = omega (arith, id_short key.id is)

member_short : (m : Member) → IsMember m → length (member_text m) ≤ 4102
member_short m is = simp length-append (omega (arith, key_short m.key is.id, text_short m.role is.role))

tags_short : (tags : List Tag) → AreTags tags → length (tags_field tags) ≤ 40810002
tags_short tags are = omega (arith, are.few, items_short tag_text IsTag 8161 tag_short tags are.each)

refs_short : (refs : List ℤ) → AreRefs refs → length (refs_field refs) ≤ 704002
refs_short refs are = omega (arith, are.few, items_short ref_text IsId 21 ref_short refs are.each)

members_short : (members : List Member) → AreMembers members → length (members_field members) ≤ 131296002
members_short members are =
    omega (arith, are.few, items_short member_text IsMember 4102 member_short members (members_join members are.ids are.roles))

-- ---- the line

what_short : (kind : Kind) (what : What) → IsWhat kind what → length (what_text kind what) ≤ 172106004
what_short kind (whats.Node lon lat tags) is =
    let x : length (coordinate_text lon) ≤ 12 = coordinate_short lon (omega (arith, ints, is.1.longitude.low, is.1.longitude.high)) in
    let y : length (coordinate_text lat) ≤ 12 = coordinate_short lat (omega (arith, ints, is.1.latitude.low, is.1.latitude.high)) in
    simp length-append (omega (arith, x, y, tags_short tags is.2))
what_short kind (whats.Way refs tags) is = simp length-append (omega (arith, tags_short tags is.2, refs_short refs is.1))
what_short kind (whats.Relation members tags) is = simp length-append (omega (arith, tags_short tags is.2, members_short members is.1))
what_short Node whats.Deleted is = omega arith
what_short Way whats.Deleted is = omega arith
what_short Relation whats.Deleted is = omega arith

status_short : (what : What) → length (status_text what) ≤ 1
status_short (whats.Node lon lat tags) = omega arith
status_short (whats.Way refs tags) = omega arith
status_short (whats.Relation members tags) = omega arith
status_short whats.Deleted = omega arith

meta_short : (status : List ℕ) (m : MetaValue) → length status ≤ 1 → IsMeta m → length (meta_text status m) ≤ 4143
meta_short status m one is =
    let version : length (decimal m.version) ≤ 10 = number_short m.version is.version in
    let changeset : length (decimal m.changeset) ≤ 10 = number_short m.changeset is.changeset in
    let uid : length (decimal m.uid) ≤ 10 = number_short m.uid is.uid in
    simp length-append (omega (arith, version, changeset, time_short m.time, uid, text_short m.user is.user))

pub lines_are_short : (c : ChangeValue) → IsObject c → length (line_text c) ≤ max_line
unfolding line_text
lines_are_short c is =
    let meta = simp length-append at (meta_short (status_text c.what) c.meta (status_short c.what) is.limits.meta) in
    simp length-append (omega (arith, meta, key_short c.key is.limits.id, what_short c.key.kind c.what is.limits.what))
