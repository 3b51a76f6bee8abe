-- Coordinates in a line, in units of 10^-7 degree.
use Rattle.std.specs.Prelude.{ℕ, ◌+◌, ◌-◌, ◌*◌, ◌^◌, ◌≤◌, List, ◌∷◌, ◌++◌, length, ℤ}
use Rattle.std.specs.Str.Parse.{IsNumeral, digits_value}
use Rattle.osm_opl.specs.Number.{Signed}

-- `DDD` or `DDD.ddddddd`: one to three digits, and one to seven after a point
pub data SpellsUnits : List ℕ → ℕ → Type 0 where
  whole : (degrees : List ℕ) → IsNumeral 10 degrees → length degrees ≤ 3
      → SpellsUnits degrees (digits_value 10 degrees * 10 ^ 7)
  point : (degrees decimals : List ℕ) → IsNumeral 10 degrees → length degrees ≤ 3
      → IsNumeral 10 decimals → length decimals ≤ 7
      → SpellsUnits (degrees ++ 46 ∷ decimals)
      (digits_value 10 degrees * 10 ^ 7 + digits_value 10 decimals * 10 ^ (7 - length decimals))

-- a coordinate: such digits, with a leading `-` if it is negative; 0 may have one too
abbrev pub SpellsCoordinate : List ℕ → ℤ → Type 0
SpellsCoordinate = Signed SpellsUnits
