-- Bytes that begin with what is written of a value. Only clauses of private functions cite these
-- definitions.
use Rattle.std.specs.Prelude.{◌≡◌, ◌≢◌, ℕ, ◌/◌, ◌≤◌, ◌<◌, true, false, List, [], ◌++◌}
use Rattle.std.specs.Prelude.{codes, length, get_or, ℤ, unsigned_abs}
use Rattle.std.specs.Char.{IsScalar}
use Rattle.std.specs.List.{AllByRecursion}
use lib.Utf8.{encodes, scalars}
use Rattle.osm_model.specs.Change.{IsWhat}
use Rattle.osm_model.specs.Limits.{IsPositive}
use Rattle.osm_model.specs.Time.{last_digit}
use Rattle.osm_model.specs.declared.change.What.{What}
use Rattle.osm_model.specs.declared.change.What.TheVariants as whats
use Rattle.osm_model.specs.declared.kind.Kind.{Kind}
use Rattle.osm_opl.specs.Flat.{meta_of}
use Rattle.osm_opl.specs.Steps.Writing.{user_start}
use Rattle.osm_opl.specs.Written.{chars_text, hex_count, is_written_bare, version_fields}
use Rattle.osm_opl.specs.declared.flat_parts.Numbers.{Numbers}

-- the text of a value within the limits comes first, and then the rest
pub record Begins {X : Type 0} (text : X → List ℕ) (Limits : X → Type 0) (bytes rest : List ℕ)
    : Type 0 where
  pub value : X
  pub limits : Limits value
  pub parts : bytes ≡ text value ++ rest

-- the text of this value, which is within the limits, comes first, and then the rest
pub record BeginsWith {X : Type 0} (text : X → List ℕ) (Limits : X → Type 0) (value : X)
    (bytes rest : List ℕ) : Type 0 where
  pub limits : Limits value
  pub parts : bytes ≡ text value ++ rest

-- a coordinate is at most so many units from 0
abbrev pub IsNear : ℕ → ℤ → Type 0
IsNear most units = unsigned_abs units ≤ most

-- ` vVERSION dV cCHANGESET tTIME iUID u`
abbrev pub numbers_text : Numbers → List ℕ
numbers_text n = version_fields (codes "V") (meta_of n []) ++ user_start (meta_of n [])

-- each of the numbers is within the limits
pub record AreNumbers (n : Numbers) : Type 0 where
  pub version : IsPositive n.version
  pub time : IsPositive n.time
  pub changeset : IsPositive n.changeset
  pub uid : IsPositive n.uid

-- what an object that isn't deleted is, of that kind and within the limits
pub record IsThere (kind : Kind) (what : What) : Type 0 where
  pub limits : IsWhat kind what
  pub left : what ≢ whats.Deleted

-- what is written of characters other than U+0000 comes first, and then the rest; the characters
-- are so many bytes in UTF-8
pub record BeginsChars (bytes rest : List ℕ) (size : ℕ) : Type 0 where
  pub characters : List ℕ
  pub scalar : scalars characters ≡ true
  pub other : AllByRecursion (λ c. c ≢ 0) characters
  pub sized : length (encodes characters) ≡ size
  pub parts : bytes ≡ chars_text characters ++ rest

-- a character other than U+0000 that is written as an escape with so many digits
pub record IsEscaped (c code count : ℕ) : Type 0 where
  pub same : c ≡ code
  pub scalar : IsScalar c
  pub other : c ≢ 0
  pub escaped : is_written_bare c ≡ false
  pub digits : count ≡ hex_count c

-- the marks of the times from 2000 to 2099 are in their places
pub record HasMarks (bytes : List ℕ) : Type 0 where
  pub thousands : get_or bytes 0 0 ≡ 50
  pub hundreds : get_or bytes 1 0 ≡ 48
  pub year : get_or bytes 4 0 ≡ 45
  pub month : get_or bytes 7 0 ≡ 45
  pub day : get_or bytes 10 0 ≡ 84
  pub hour : get_or bytes 13 0 ≡ 58
  pub minute : get_or bytes 16 0 ≡ 58
  pub second : get_or bytes 19 0 ≡ 90

-- the number that two digits spell
pub record IsPair (tens ones n : ℕ) : Type 0 where
  pub small : n < 100
  pub first : tens ≡ last_digit (n / 10)
  pub second : ones ≡ last_digit n
