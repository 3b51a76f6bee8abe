-- How long the lines of a save text are at least.
use Rattle.std.proofs.Common.{◌≡◌, ap, ℕ, zero, suc, ◌+◌, ◌*◌, ◌/◌, ◌%◌, ◌<◌, ◌≤◌, List, [], ◌∷◌, ◌++◌, length, length-append}
use Rattle.std.proofs.Common.{map, Bool, true, false, ℤ, pos, negsuc, arith, mul-suc}
use Rattle.std.specs.Prelude.{◌==◌, if◌then◌else◌, codes, decimal}
use Rattle.std.specs.Fmt.{digit_glyph, digits, digits_onto, signed_decimal}
use Rattle.osm_model.specs.Change.{ChangeValue}
use Rattle.osm_model.specs.CivilTime.{time_text}
use Rattle.osm_model.specs.Filter.{AreKept, FilterValue, IsFilter}
use Rattle.osm_model.specs.Meta.{MetaValue}
use Rattle.osm_model.specs.declared.change.What.{What}
use Rattle.osm_model.specs.declared.change.What.TheVariants as whats
use Rattle.osm_model.specs.declared.kind.Key.{Key}
use Rattle.osm_model.specs.declared.lists.Tag.{Tag}
use Rattle.osm_model.specs.declared.kind.Kind.{Kind}
use Rattle.osm_model.specs.declared.kind.Kind.TheVariants.{Node, Way, Relation}
use Rattle.osm_mirror.specs.Mirror.{Counted, IsMirror, IsWithin, MirrorValue}
use Rattle.osm_opl.specs.Line.{status_text}
use Rattle.osm_opl.specs.Written.{coordinate_field, coordinate_text, escaped_text, items_text, key_text, line_text}
use Rattle.osm_opl.specs.Written.{member_text, members_field, meta_text, number_field, ref_text, refs_field, tag_text}
use Rattle.osm_opl.specs.Written.{tags_field, user_fields, version_fields, what_text}
use Rattle.osm_save.specs.Head.{IsHeadIn, head_lines, head_of, most_counted}
use Rattle.osm_save.specs.Lines.{ended, list_lines}
use Rattle.osm_save.specs.Save.{SpellsSave, count_text, save_text, saved_with}
use Rattle.osm_save.specs.declared.head.Head.{Head}
use Rattle.osm_save.specs.declared.save.Saved.{Saved}
use Rattle.osm_save.specs.declared.version.Version.{Version}
use Rattle.osm_save.specs.declared.version.Version.TheVariants.{Three}
use Rattle.osm_save.proofs.TextLemmas.{before, mirror_text, save_text_is}

-- two parts are as long as both together
both : (m n : ℕ) (a b : List ℕ) → m ≤ length a → n ≤ length b → m + n ≤ length (a ++ b)
both m n a b p q = omega (arith, length-append a b)

-- ---- numbers

digits_onto_more : (k n : ℕ) (acc : List ℕ) → length acc ≤ length (digits_onto k 10 false n acc)
digits_onto_more zero n acc = omega arith
digits_onto_more (suc k) n acc = by_case (n / 10 == 0) (digits_onto_more k (n / 10) (digit_glyph false (n % 10) ∷ acc))
  where
    more : List ℕ
    more = digit_glyph false (n % 10) ∷ acc

    by_case : (b : Bool) → length more ≤ length (digits_onto k 10 false (n / 10) more)
        → length acc ≤ length (if b then more else digits_onto k 10 false (n / 10) more)
    by_case true rest = omega arith
    by_case false rest = omega arith

some_digits : (k n : ℕ) → 0 < k → 1 ≤ length (digits_onto k 10 false n [])
some_digits zero n some = absurd (omega arith)
some_digits (suc k) n some = by_case (n / 10 == 0)
  where
    first : List ℕ
    first = digit_glyph false (n % 10) ∷ []

    by_case : (b : Bool) → 1 ≤ length (if b then first else digits_onto k 10 false (n / 10) first)
    by_case true = omega arith
    by_case false = (let rest : 1 ≤ length (digits_onto k 10 false (n / 10) first) = digits_onto_more k (n / 10) first in omega arith)

pub decimal_long : (n : ℕ) → 1 ≤ length (decimal n)
unfolding digits
decimal_long n = some_digits 64 n (omega arith)

signed_long : (z : ℤ) → 1 ≤ length (signed_decimal z)
signed_long (pos n) = decimal_long n
signed_long (negsuc n) = omega arith

-- ---- the line of an object

key_long : (key : Key) → 2 ≤ length (key_text key)
key_long key = let id : 1 ≤ length (signed_decimal key.id) = signed_long key.id in omega arith

field_long : (mark : List ℕ) (n : ℕ) → length mark + 1 ≤ length (number_field mark n)
field_long mark n = both (length mark) 1 mark (decimal n) (omega arith) (decimal_long n)

time_long : (time : ℕ) → 20 ≤ length (time_text time)
unfolding time_text
time_long time = omega arith

status_long : (what : What) → 1 ≤ length (status_text what)
status_long (whats.Node lon lat tags) = omega arith
status_long (whats.Way refs tags) = omega arith
status_long (whats.Relation members tags) = omega arith
status_long whats.Deleted = omega arith

tags_long : (tags : List Tag) → 2 ≤ length (tags_field tags)
tags_long tags = omega (arith, length-append (codes " T") (items_text tag_text tags))

what_long : (kind : Kind) (what : What) → 4 ≤ length (what_text kind what)
what_long kind (whats.Node lon lat tags) =
    let x : 2 ≤ length (coordinate_field (codes " x") lon) = omega (arith, length-append (codes " x") (coordinate_text lon)) in
    let front : 2 + 2 ≤ length (tags_field tags ++ coordinate_field (codes " x") lon) =
    both 2 2 (tags_field tags) (coordinate_field (codes " x") lon) (tags_long tags) x in
    omega (arith, front, length-append (tags_field tags ++ coordinate_field (codes " x") lon) (coordinate_field (codes " y") lat))
what_long kind (whats.Way refs tags) = both 2 2 (tags_field tags) (refs_field refs) (tags_long tags)
    (omega (arith, length-append (codes " N") (items_text ref_text refs)))
what_long kind (whats.Relation members tags) = both 2 2 (tags_field tags) (members_field members) (tags_long tags)
    (omega (arith, length-append (codes " M") (items_text member_text members)))
what_long Node whats.Deleted = omega arith
what_long Way whats.Deleted = omega arith
what_long Relation whats.Deleted = omega arith

version_long : (status : List ℕ) (m : MetaValue) → 1 ≤ length status → 9 ≤ length (version_fields status m)
version_long status m some =
    let version : 3 ≤ length (number_field (codes " v") m.version) = field_long (codes " v") m.version in
    let visible : 2 + 1 ≤ length (codes " d" ++ status) = both 2 1 (codes " d") status (omega arith) some in
    let changeset : 3 ≤ length (number_field (codes " c") m.changeset) = field_long (codes " c") m.changeset in
    both 6 3 (number_field (codes " v") m.version ++ (codes " d" ++ status)) (number_field (codes " c") m.changeset)
    (both 3 3 (number_field (codes " v") m.version) (codes " d" ++ status) version visible) changeset

user_long : (m : MetaValue) → 27 ≤ length (user_fields m)
user_long m =
    let time : 2 + 20 ≤ length (codes " t" ++ time_text m.time) = both 2 20 (codes " t") (time_text m.time) (omega arith) (time_long m.time) in
    let uid : 3 ≤ length (number_field (codes " i") m.uid) = field_long (codes " i") m.uid in
    let user : 2 ≤ length (codes " u" ++ escaped_text m.user) = omega (arith, length-append (codes " u") (escaped_text m.user)) in
    both 25 2 ((codes " t" ++ time_text m.time) ++ number_field (codes " i") m.uid) (codes " u" ++ escaped_text m.user)
    (both 22 3 (codes " t" ++ time_text m.time) (number_field (codes " i") m.uid) time uid) user

line_long : (c : ChangeValue) → 42 ≤ length (line_text c)
unfolding line_text
line_long c =
    let status : List ℕ = status_text c.what in
    let meta : 9 + 27 ≤ length (meta_text status c.meta) = both 9 27 (version_fields status c.meta) (user_fields c.meta)
    (version_long status c.meta (status_long c.what)) (user_long c.meta) in
    both 38 4 (key_text c.key ++ meta_text status c.meta) (what_text c.key.kind c.what)
    (both 2 36 (key_text c.key) (meta_text status c.meta) (key_long c.key) meta) (what_long c.key.kind c.what)

count_long : (e : Counted) → 3 ≤ length (count_text e)
count_long e =
    let count : 2 ≤ length (32 ∷ decimal e.1) = (let some : 1 ≤ length (decimal e.1) = decimal_long e.1 in omega arith) in
    both 1 2 (decimal e.0) (32 ∷ decimal e.1) (decimal_long e.0) count

-- ---- the lists

-- lines of so many bytes, each with its end
lines_long : {X : Type 0} (text : X → List ℕ) (least : ℕ) (xs : List X) → ((x : X) → least ≤ length (text x))
    → (least + 1) * length xs ≤ length (ended (map text xs))
lines_long text least [] long = omega arith
lines_long text least (x ∷ xs) long =
    let first : least ≤ length (text x) = long x in
    let rest : (least + 1) * length xs ≤ length (ended (map text xs)) = lines_long text least xs long in
    omega (arith, length-append (text x) (10 ∷ ended (map text xs)), mul-suc (least + 1) (length xs))

list_long : {X : Type 0} (word : List ℕ) (text : X → List ℕ) (least : ℕ) (xs : List X)
    → ((x : X) → least ≤ length (text x)) → (least + 1) * length xs ≤ length (ended (list_lines word text xs))
list_long word text least xs long =
    let lines : (least + 1) * length xs ≤ length (ended (map text xs)) = lines_long text least xs long in
    omega (arith, length-append (word ++ decimal (length xs)) (10 ∷ ended (map text xs)))

-- the least length of a mirror's lists
abbrev pub least_of : MirrorValue → ℕ
least_of m = 43 * length m.objects + 4 * length m.users + 4 * length m.changesets

abbrev objects_of : Saved → List ℕ
objects_of v = ended (list_lines (codes "objects ") line_text v.mirror.objects)

abbrev users_of : Saved → List ℕ
users_of v = ended (list_lines (codes "users ") count_text v.mirror.users)

abbrev changesets_of : Saved → List ℕ
changesets_of v = ended (list_lines (codes "changesets ") count_text v.mirror.changesets)

before_long : (lines : List (List ℕ)) (rest : List ℕ) → length rest ≤ length (before lines rest)
before_long [] rest = omega arith
before_long (line ∷ lines) rest =
    let more : length rest ≤ length (before lines rest) = before_long lines rest in
    omega (arith, more, length-append line (10 ∷ before lines rest))

-- a save text is at least that long
pub text_long : (version : Version) (v : Saved) → least_of v.mirror ≤ length (save_text version v)
text_long version v =
    let objects : 43 * length v.mirror.objects ≤ length (objects_of v) = list_long (codes "objects ") line_text 42 v.mirror.objects line_long in
    let users : 4 * length v.mirror.users ≤ length (users_of v) = list_long (codes "users ") count_text 3 v.mirror.users count_long in
    let changesets : 4 * length v.mirror.changesets ≤ length (changesets_of v) = list_long (codes "changesets ") count_text 3 v.mirror.changesets count_long in
    let last : List ℕ = codes "end" ++ 10 ∷ [] in
    let two : 4 * length v.mirror.changesets + 0 ≤ length (changesets_of v ++ last) =
    both (4 * length v.mirror.changesets) 0 (changesets_of v) last changesets (omega arith) in
    let three : 4 * length v.mirror.users + (4 * length v.mirror.changesets + 0) ≤
    length (users_of v ++ (changesets_of v ++ last)) =
    both (4 * length v.mirror.users) (4 * length v.mirror.changesets + 0) (users_of v) (changesets_of v ++ last)
    users two in
    let lists : 43 * length v.mirror.objects + (4 * length v.mirror.users + (4 * length v.mirror.changesets + 0)) ≤
    length (mirror_text v.mirror) = both (43 * length v.mirror.objects) (4 * length v.mirror.users
    + (4 * length v.mirror.changesets + 0)) (objects_of v) (users_of v ++ (changesets_of v ++ last)) objects
    three in
    rw (save_text_is version v) (omega (arith, lists, before_long (head_lines version (head_of v) v.filter) (mirror_text v.mirror)))

-- what is written of such a mirror spells it: fewer than 2 ^ 63 bytes have fewer than 10 ^ 18 objects, of 43 or more each
pub written_spells : (head : Head) (f : FilterValue) (m : MirrorValue) (text : List ℕ) → text ≡ save_text Three (saved_with head f m)
    → length text < 9223372036854775808 → IsFilter f → IsMirror m → IsHeadIn Three head → IsWithin (most_counted head) m → AreKept f m.objects
    → SpellsSave text (saved_with head f m)
written_spells head f m text is short filter mirror limits within kept = record {
  version = Three;
  savable = record {
    head = limits;
    filter = filter;
    tells = tt;
    mirror = mirror;
    kept = kept;
    within = within;
    objects = (let long = text_long Three (saved_with head f m) in let size = ap length is in omega (arith, long, size, short));
  };
  text = is;
}
