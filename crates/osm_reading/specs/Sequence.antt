-- Sequence numbers as texts (OSM wiki, Planet.osm/diffs; the number of digits is our choice).
use Rattle.std.specs.Prelude.{◌≡◌, ℕ, ◌≤◌, List, length}
use Rattle.std.specs.Str.Parse.{IsNumeral, digits_value}

-- 1 to 9 decimal digits, with leading zeros or without, and the number that they write
pub record SpellsSequence (digits : List ℕ) (number : ℕ) : Type 0 where
  pub numeral : IsNumeral 10 digits
  pub short : length digits ≤ 9
  pub value : number ≡ digits_value 10 digits
