-- Numbers in bytes (OSM wiki, O5m: unsigned and signed numbers).
use Rattle.std.specs.Prelude.{◌≡◌, ℕ, ◌+◌, ◌*◌, ◌%◌, ◌<◌, ◌≤◌, ◌^◌, List, [], ◌∷◌, length, ℤ, pos}
use Rattle.std.specs.Prelude.{negsuc}

-- a varint: all bytes but the last have the high bit, and the last doesn't
abbrev pub IsVarint : List ℕ → Type 0
IsVarint [] = ⊥
IsVarint (b ∷ []) = b < 128
IsVarint (b ∷ c ∷ bs) = (128 ≤ b) × IsVarint (c ∷ bs)

-- the value of a varint: the sum of the low seven bits of each byte, the least significant first
abbrev pub varint_value : List ℕ → ℕ
varint_value [] = 0
varint_value (b ∷ bs) = b % 128 + 128 * varint_value bs

-- an unsigned number below 2^64: a varint of 1 to 10 bytes, not necessarily the fewest
pub record SpellsNumber (bytes : List ℕ) (n : ℕ) : Type 0 where
  pub varint : IsVarint bytes
  pub value : n ≡ varint_value bytes
  pub short : length bytes ≤ 10
  pub small : n < 2 ^ 64

-- the zigzag of a signed number v: 2v from 0 on, -2v-1 below 0
abbrev pub zigzag : ℤ → ℕ
zigzag (pos n) = 2 * n
zigzag (negsuc n) = 2 * n + 1

-- a signed number is spelled as the unsigned number that is its zigzag
pub record SpellsSigned (bytes : List ℕ) (v : ℤ) : Type 0 where
  pub unsigned : SpellsNumber bytes (zigzag v)
