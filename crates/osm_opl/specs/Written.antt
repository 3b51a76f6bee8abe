-- What is written: one of the many spellings of a change.
use Rattle.std.specs.Prelude.{ℕ, zero, suc, ◌+◌, ◌/◌, ◌%◌, ◌^◌, ◌==◌, ◌&&◌, nat_lt, nat_le, not}
use Rattle.std.specs.Prelude.{Bool, List, [], ◌∷◌, ◌++◌, ℤ, codes, decimal, unsigned_abs}
use Rattle.std.specs.Prelude.{if◌then◌else◌}
use Rattle.std.specs.Char.{digit_char}
use Rattle.std.specs.Fmt.{signed_decimal, sign_text}
use Rattle.std.specs.Int.{is_negative}
use Rattle.std.specs.Str.{chars}
use Rattle.osm_model.specs.Change.{ChangeValue}
use Rattle.osm_model.specs.Meta.{MetaValue}
use Rattle.osm_model.specs.declared.change.What.{What}
use Rattle.osm_model.specs.declared.change.What.TheVariants as whats
use Rattle.osm_model.specs.declared.kind.Key.{Key}
use Rattle.osm_model.specs.declared.kind.Kind.{Kind}
use Rattle.osm_model.specs.declared.kind.Kind.TheVariants.{Node, Way, Relation}
use Rattle.osm_model.specs.declared.lists.Member.{Member}
use Rattle.osm_model.specs.declared.lists.Tag.{Tag}
use Rattle.osm_model.specs.CivilTime.{time_text}
use Rattle.osm_opl.specs.Escape.{is_reserved}
use Rattle.osm_opl.specs.Line.{status_text}
use Rattle.osm_opl.specs.Lists.{letter_of}

-- the last hexadecimal digits of a number, as many as are asked for
unfoldable pub hex_digits : ℕ → ℕ → List ℕ
hex_digits zero c = []
hex_digits (suc k) c = digit_char (c / 16 ^ k % 16) ∷ hex_digits k c

-- how many digits the escape of a character has: at least two, without further leading zeros
abbrev pub hex_count : ℕ → ℕ
hex_count c =
    if nat_lt c 0x100 then 2 else (if nat_lt c 0x1000 then 3 else (if nat_lt c 0x10000 then 4
    else (if nat_lt c 0x10_0000 then 5 else 6)))

-- 21 to 7e (hexadecimal) are written bare, except those that can't be bare
abbrev pub is_written_bare : ℕ → Bool
is_written_bare c = nat_le 0x21 c && nat_le c 0x7e && not (is_reserved c)

-- a character as it is written
unfoldable pub char_text : ℕ → List ℕ
char_text c =
    if is_written_bare c then c ∷ [] else 37 ∷ hex_digits (hex_count c) c ++ 37 ∷ []

-- characters as they are written
abbrev pub chars_text : List ℕ → List ℕ
chars_text [] = []
chars_text (c ∷ cs) = char_text c ++ chars_text cs

-- a text as it is written
unfoldable pub escaped_text : List ℕ → List ℕ
escaped_text text = chars_text (chars text)

-- the first digits of a fraction n / 10^k, up to the last that isn't 0
unfoldable pub decimals : ℕ → ℕ → List ℕ
decimals zero n = []
decimals (suc k) n = if n == 0 then [] else (48 + n / 10 ^ k) ∷ decimals k (n % 10 ^ k)

-- a point and decimals, if these aren't all 0
abbrev pub fraction_text : ℕ → List ℕ
fraction_text n = if n == 0 then [] else 46 ∷ decimals 7 n

-- a coordinate in degrees
unfoldable pub coordinate_text : ℤ → List ℕ
coordinate_text units =
    sign_text (is_negative units) ++ decimal (unsigned_abs units / 10 ^ 7)
    ++ fraction_text (unsigned_abs units % 10 ^ 7)

-- the items after the first, with a comma before each
abbrev pub more_items : {X : Type 0} → (X → List ℕ) → List X → List ℕ
more_items text [] = []
more_items text (x ∷ xs) = 44 ∷ text x ++ more_items text xs

-- items separated by commas
abbrev pub items_text : {X : Type 0} → (X → List ℕ) → List X → List ℕ
items_text text [] = []
items_text text (x ∷ xs) = text x ++ more_items text xs

-- `KEY=VALUE`
abbrev pub tag_text : Tag → List ℕ
tag_text t = escaped_text t.key ++ 61 ∷ escaped_text t.value

-- `nID`
abbrev pub ref_text : ℤ → List ℕ
ref_text id = 110 ∷ signed_decimal id

-- `nID`, `wID` or `rID`
abbrev pub key_text : Key → List ℕ
key_text key = letter_of key.kind ∷ signed_decimal key.id

-- `nID@ROLE`, `wID@ROLE` or `rID@ROLE`
abbrev pub member_text : Member → List ℕ
member_text m = key_text m.key ++ 64 ∷ escaped_text m.role

-- a space, a field's letter and its number
abbrev pub number_field : List ℕ → ℕ → List ℕ
number_field mark n = mark ++ decimal n

-- ` TTAGS`
abbrev pub tags_field : List Tag → List ℕ
tags_field tags = codes " T" ++ items_text tag_text tags

-- ` xLONGITUDE` or ` yLATITUDE`
abbrev pub coordinate_field : List ℕ → ℤ → List ℕ
coordinate_field mark units = mark ++ coordinate_text units

-- ` NREFS`
abbrev pub refs_field : List ℤ → List ℕ
refs_field refs = codes " N" ++ items_text ref_text refs

-- ` MMEMBERS`
abbrev pub members_field : List Member → List ℕ
members_field members = codes " M" ++ items_text member_text members

-- the fields after the user, each after a space; those of a deletion are empty
abbrev pub what_text : Kind → What → List ℕ
what_text kind (whats.Node lon lat tags) =
    tags_field tags ++ coordinate_field (codes " x") lon ++ coordinate_field (codes " y") lat
what_text kind (whats.Way refs tags) = tags_field tags ++ refs_field refs
what_text kind (whats.Relation members tags) = tags_field tags ++ members_field members
what_text Node whats.Deleted = codes " T x y"
what_text Way whats.Deleted = codes " T N"
what_text Relation whats.Deleted = codes " T M"

-- `V` or `D`
abbrev pub visible_text : Bool → List ℕ
visible_text is_visible = if is_visible then codes "V" else codes "D"

-- ` vVERSION dV cCHANGESET`
abbrev pub version_fields : List ℕ → MetaValue → List ℕ
version_fields status m =
    number_field (codes " v") m.version ++ (codes " d" ++ status)
    ++ number_field (codes " c") m.changeset

-- ` tTIME iUID uUSER`
abbrev pub user_fields : MetaValue → List ℕ
user_fields m =
    (codes " t" ++ time_text m.time) ++ number_field (codes " i") m.uid
    ++ (codes " u" ++ escaped_text m.user)

-- ` vVERSION dV cCHANGESET tTIME iUID uUSER`
abbrev pub meta_text : List ℕ → MetaValue → List ℕ
meta_text status m = version_fields status m ++ user_fields m

-- the line of a change, without its end
unfoldable pub line_text : ChangeValue → List ℕ
line_text c =
    key_text c.key ++ meta_text (status_text c.what) c.meta ++ what_text c.key.kind c.what

-- a file: the lines of the changes, each followed by LF
unfoldable pub opl_text : List ChangeValue → List ℕ
opl_text [] = []
opl_text (c ∷ cs) = line_text c ++ 10 ∷ opl_text cs
