-- How a line is read: the value that bytes spell, if they spell one. No public clause
-- cites these definitions; the lemmas that tie them to the grammar are in proofs/.
use Rattle.std.specs.Prelude.{ℕ, ◌+◌, ◌-◌, ◌*◌, ◌^◌, ◌<◌, ◌==◌, ◌&&◌, nat_lt, nat_le, not}
use Rattle.std.specs.Prelude.{Bool, true, false, List, [], ◌∷◌, ◌++◌, length, Option, None, Some}
use Rattle.std.specs.Prelude.{ℤ, pos, neg_ℤ, if◌then◌else◌, unsigned_abs}
use Rattle.std.specs.Char.{encode_utf8, digit_value}
use Rattle.std.specs.List.{list_all}
use Rattle.std.specs.Str.{is_utf8, bytes_eq}
use Rattle.std.specs.Str.Parse.{digits_value}
use lib.Utf8.{scalar}
use Rattle.osm_model.specs.Change.{ChangeValue}
use Rattle.osm_model.specs.Clock.{loose_moment}
use Rattle.osm_model.specs.Meta.{MetaValue}
use Rattle.osm_model.specs.Time.{seconds_of}
use Rattle.osm_model.specs.declared.change.What.{What}
use Rattle.osm_model.specs.declared.change.What.TheVariants as whats
use Rattle.osm_model.specs.declared.kind.Key.{Key}
use Rattle.osm_model.specs.declared.kind.Kind.{Kind}
use Rattle.osm_model.specs.declared.kind.Kind.TheVariants.{Node, Way, Relation}
use Rattle.osm_model.specs.declared.lists.Member.{Member}
use Rattle.osm_model.specs.declared.lists.Tag.{Tag}
use Rattle.osm_model.specs.CivilTime.{time_text}
use Rattle.osm_opl.specs.Escape.{is_reserved}
use Rattle.osm_reading.specs.Pieces.{cut_at, pieces}
use Rattle.osm_reading.specs.Answers.{and_then}
use Rattle.osm_reading.specs.declared.refusal.Refusal.{Refusal}
use Rattle.osm_reading.specs.declared.refusal.Refusal.TheVariants.{WantOfMemory, Fault}

-- each byte is a digit in the radix
abbrev pub all_digits : ℕ → List ℕ → Bool
all_digits radix [] = true
all_digits radix (c ∷ cs) = nat_lt (digit_value c) radix && all_digits radix cs

-- at least one digit, and at most `most`
abbrev pub is_numeral : ℕ → ℕ → List ℕ → Bool
is_numeral radix most bytes =
    all_digits radix bytes && nat_le 1 (length bytes) && nat_le (length bytes) most

-- the value of such digits
unfoldable pub digits_at : ℕ → ℕ → List ℕ → Option ℕ
digits_at radix most bytes =
    if is_numeral radix most bytes then Some (digits_value radix bytes) else None

-- a number of 1 to 20 digits, no greater than `most`
unfoldable pub number_at : ℕ → List ℕ → Option ℕ
number_at most bytes =
    and_then (digits_at 10 20 bytes) (λ n. if nat_le n most then Some n else None)

-- 1 to 4,294,967,295
unfoldable pub positive_at : List ℕ → Option ℕ
positive_at bytes =
    and_then (number_at 4294967295 bytes) (λ n. if nat_le 1 n then Some n else None)

-- with or without a leading `-`
abbrev pub signed_at : (List ℕ → Option ℕ) → List ℕ → Option ℤ
signed_at read [] = None
signed_at read (b ∷ bs) =
    if b == 45 then and_then (read bs) (λ n. Some (neg_ℤ (pos n)))
    else and_then (read (b ∷ bs)) (λ n. Some (pos n))

unfoldable pub id_at : List ℕ → Option ℤ
id_at bytes = signed_at (number_at 4611686018427387903) bytes

-- degrees in units of 10^-7 degree, no more than `most`
abbrev pub within : ℕ → ℕ → Option ℕ
within most units = if nat_le units most then Some units else None

abbrev pub parts_at : ℕ → List ℕ → Option (List ℕ × List ℕ) → Option ℕ
parts_at most bytes None = and_then (digits_at 10 3 bytes) (λ d. within most (d * 10 ^ 7))
parts_at most bytes (Some c) =
    and_then (digits_at 10 3 c.0) (λ d. and_then (digits_at 10 7 c.1) (λ f.
    within most (d * 10 ^ 7 + f * 10 ^ (7 - length c.1))))

unfoldable pub units_at : ℕ → List ℕ → Option ℕ
units_at most bytes = parts_at most bytes (cut_at 46 bytes)

unfoldable pub coordinate_at : ℕ → List ℕ → Option ℤ
coordinate_at most bytes = signed_at (units_at most) bytes

-- a coordinate, or nothing
unfoldable pub maybe_coordinate_at : ℕ → List ℕ → Option (Option ℤ)
maybe_coordinate_at most [] = Some None
maybe_coordinate_at most (b ∷ bs) = and_then (coordinate_at most (b ∷ bs)) (λ z. Some (Some z))

-- the seconds of the one time that has this text
unfoldable pub time_at : List ℕ → Option ℕ
time_at bytes =
    let t = unsigned_abs (seconds_of (loose_moment bytes)) in
    if nat_le 1 t && nat_lt t (2 ^ 32) && bytes_eq bytes (time_text t) then Some t else None

-- bytes that may be bare
abbrev pub is_free : ℕ → Bool
is_free b = not (is_reserved b)

abbrev pub is_bare_run : List ℕ → Bool
is_bare_run run = list_all is_free run && is_utf8 run

abbrev pub run_at : List ℕ → Option (List ℕ)
run_at run = if is_bare_run run then Some run else None

-- the character that an escape names
unfoldable pub escape_at : List ℕ → Option ℕ
escape_at digits =
    and_then (digits_at 16 8 digits) (λ c. if scalar c && not (c == 0) then Some c else None)

-- runs and escapes in turn, a run at each end
abbrev pub runs_at : List (List ℕ) → Option (List ℕ)
runs_at [] = None
runs_at (run ∷ []) = run_at run
runs_at (run ∷ digits ∷ more) =
    and_then (run_at run) (λ r. and_then (escape_at digits) (λ c.
    and_then (runs_at more) (λ t. Some (r ++ encode_utf8 c ++ t))))

unfoldable pub text_at : List ℕ → Option (List ℕ)
text_at bytes =
    and_then (runs_at (pieces 37 bytes)) (λ t. if nat_le (length t) 1020 then Some t else None)

-- a text is refused for a fault only if it has more than 1,020 bytes
abbrev pub PassesLimit : List ℕ → Refusal → Type 0
PassesLimit text WantOfMemory = Unit {0}
PassesLimit text (Fault why) = 1020 < length text

-- what each of the pieces spells
abbrev pub each_at : {X : Type 0} → (List ℕ → Option X) → List (List ℕ) → Option (List X)
each_at read [] = Some []
each_at read (p ∷ ps) = and_then (read p) (λ x. and_then (each_at read ps) (λ xs. Some (x ∷ xs)))

abbrev pub list_pieces : List ℕ → List (List ℕ)
list_pieces [] = []
list_pieces (b ∷ bs) = pieces 44 (b ∷ bs)

-- a list of at most `most` items
unfoldable pub list_at : {X : Type 0} → (List ℕ → Option X) → ℕ → List ℕ → Option (List X)
list_at read most bytes =
    and_then (each_at read (list_pieces bytes)) (λ xs.
    if nat_le (length xs) most then Some xs else None)

unfoldable pub tag_at : List ℕ → Option Tag
tag_at bytes =
    and_then (cut_at 61 bytes) (λ c.
    and_then (text_at c.0) (λ key.
    and_then (text_at c.1) (λ value.
    Some (record { key = key; value = value }))))

unfoldable pub ref_at : List ℕ → Option ℤ
ref_at [] = None
ref_at (b ∷ bs) = if b == 110 then id_at bs else None

-- the kind that a letter names
abbrev pub kind_at : ℕ → Option Kind
kind_at b =
    if b == 110 then Some Node else (if b == 119 then Some Way
    else (if b == 114 then Some Relation else None))

abbrev pub member_after : List ℕ → Kind → Option Member
member_after bs kind =
    and_then (cut_at 64 bs) (λ c.
    and_then (id_at c.0) (λ id.
    and_then (text_at c.1) (λ role.
    Some (record { key = record { kind = kind; id = id }; role = role }))))

unfoldable pub member_at : List ℕ → Option Member
member_at [] = None
member_at (b ∷ bs) = and_then (kind_at b) (member_after bs)

-- the content of the next field, which begins with that letter, and the fields after it
unfoldable pub field_at : ℕ → List (List ℕ) → Option (List ℕ × List (List ℕ))
field_at letter [] = None
field_at letter ([] ∷ more) = None
field_at letter ((b ∷ bs) ∷ more) = if b == letter then Some (bs, more) else None

-- the content, if no field follows
abbrev pub alone : List ℕ × List (List ℕ) → Option (List ℕ)
alone (content, []) = Some content
alone (content, p ∷ ps) = None

-- the content of the last field, which begins with that letter
unfoldable pub last_field_at : ℕ → List (List ℕ) → Option (List ℕ)
last_field_at letter fields = and_then (field_at letter fields) alone

-- the kind and the id, and the fields after them
unfoldable pub key_at : List (List ℕ) → Option (Key × List (List ℕ))
key_at [] = None
key_at ([] ∷ more) = None
key_at ((b ∷ bs) ∷ more) =
    and_then (kind_at b) (λ kind. and_then (id_at bs) (λ id.
    Some (record { kind = kind; id = id }, more)))

-- `V` or `D`
unfoldable pub status_at : List ℕ → Option Bool
status_at [] = None
status_at (b ∷ []) = if b == 86 then Some true else (if b == 68 then Some false else None)
status_at (b ∷ c ∷ bs) = None

-- the number in the next field, which begins with that letter
unfoldable pub positive_field_at : ℕ → List (List ℕ) → Option (ℕ × List (List ℕ))
positive_field_at letter fields =
    and_then (field_at letter fields) (λ f. and_then (positive_at f.0) (λ n. Some (n, f.1)))

unfoldable pub status_field_at : List (List ℕ) → Option (Bool × List (List ℕ))
status_field_at fields =
    and_then (field_at 100 fields) (λ f. and_then (status_at f.0) (λ b. Some (b, f.1)))

unfoldable pub time_field_at : List (List ℕ) → Option (ℕ × List (List ℕ))
time_field_at fields =
    and_then (field_at 116 fields) (λ f. and_then (time_at f.0) (λ t. Some (t, f.1)))

unfoldable pub user_field_at : List (List ℕ) → Option (List ℕ × List (List ℕ))
user_field_at fields =
    and_then (field_at 117 fields) (λ f. and_then (text_at f.0) (λ t. Some (t, f.1)))

-- whether the object is visible, the metadata, and the fields after them
unfoldable pub head_at : List (List ℕ) → Option (Bool × MetaValue × List (List ℕ))
head_at fields =
    and_then (positive_field_at 118 fields) (λ v.
    and_then (status_field_at v.1) (λ d.
    and_then (positive_field_at 99 d.1) (λ c.
    and_then (time_field_at c.1) (λ t.
    and_then (positive_field_at 105 t.1) (λ i.
    and_then (user_field_at i.1) (λ u.
    Some (
      d.0,
      record {
        version = v.0;
        time = t.0;
        changeset = c.0;
        uid = i.0;
        user = u.0;
      },
      u.1,
    )))))))

abbrev pub node_of : Bool → Option ℤ → Option ℤ → List Tag → Option What
node_of false lon lat tags = Some whats.Deleted
node_of true (Some lon) (Some lat) tags = Some (whats.Node lon lat tags)
node_of true (Some lon) None tags = None
node_of true None lat tags = None

unfoldable pub node_at : Bool → List (List ℕ) → Option What
node_at is_visible fields =
    and_then (field_at 84 fields) (λ t.
    and_then (list_at tag_at 5000 t.0) (λ tags.
    and_then (field_at 120 t.1) (λ x.
    and_then (maybe_coordinate_at 1800000000 x.0) (λ lon.
    and_then (last_field_at 121 x.1) (λ y.
    and_then (maybe_coordinate_at 900000000 y) (λ lat.
    node_of is_visible lon lat tags))))))

unfoldable pub way_at : Bool → List (List ℕ) → Option What
way_at is_visible fields =
    and_then (field_at 84 fields) (λ t.
    and_then (list_at tag_at 5000 t.0) (λ tags.
    and_then (last_field_at 78 t.1) (λ n.
    and_then (list_at ref_at 32000 n) (λ refs.
    Some (if is_visible then whats.Way refs tags else whats.Deleted)))))

unfoldable pub relation_at : Bool → List (List ℕ) → Option What
relation_at is_visible fields =
    and_then (field_at 84 fields) (λ t.
    and_then (list_at tag_at 5000 t.0) (λ tags.
    and_then (last_field_at 77 t.1) (λ m.
    and_then (list_at member_at 32000 m) (λ members.
    Some (if is_visible then whats.Relation members tags else whats.Deleted)))))

-- the fields after the user
abbrev pub what_at : Kind → Bool → List (List ℕ) → Option What
what_at Node = node_at
what_at Way = way_at
what_at Relation = relation_at

unfoldable pub line_at : List ℕ → Option ChangeValue
line_at line =
    and_then (key_at (pieces 32 line)) (λ k.
    and_then (head_at k.1) (λ h.
    and_then (what_at k.0.kind h.0 h.2) (λ what.
    Some (record { key = k.0; meta = h.1; what = what }))))
