-- Whole numbers in a line (our choice: 1 to 20 digits, leading zeros accepted).
use Rattle.std.specs.Prelude.{◌≡◌, ℕ, ◌≤◌, List, ◌∷◌, length, ℤ, pos, neg_ℤ}
use Rattle.std.specs.Str.Parse.{IsNumeral, digits_value}

-- 1 to 20 digits
pub record SpellsNumber (bytes : List ℕ) (n : ℕ) : Type 0 where
  pub numeral : IsNumeral 10 bytes
  pub short : length bytes ≤ 20
  pub value : n ≡ digits_value 10 bytes

-- a spelling of a number, with a `-` before it or without
pub data Signed (Spells : List ℕ → ℕ → Type 0) : List ℕ → ℤ → Type 0 where
  plain : (bytes : List ℕ) (n : ℕ) → Spells bytes n → Signed Spells bytes (pos n)
  minus : (bytes : List ℕ) (n : ℕ) → Spells bytes n → Signed Spells (45 ∷ bytes) (neg_ℤ (pos n))

-- an id: a whole number, with a leading `-` if it is negative; 0 may have one too
abbrev pub SpellsId : List ℕ → ℤ → Type 0
SpellsId = Signed SpellsNumber
