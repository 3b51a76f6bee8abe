-- Texts in a line: user names, keys and values of tags, roles of members (Osmium manual, OPL File
-- Format; which characters may be bare is our choice).
use Rattle.std.specs.Prelude.{◌≡◌, ◌≢◌, ℕ, ◌==◌, ◌≤◌, Bool, false, ◌||◌}
use Rattle.std.specs.Prelude.{List, [], ◌∷◌, ◌++◌, length}
use Rattle.std.specs.Char.{IsScalar, encode_utf8}
use Rattle.std.specs.Str.Parse.{IsNumeral, digits_value}
use Rattle.osm_model.specs.Text.{IsText}
use Rattle.osm_reading.specs.declared.refusal.Refusal.{Refusal}
use Rattle.osm_reading.specs.declared.refusal.Refusal.TheVariants.{WantOfMemory, Fault}

-- U+0000, tab, line feed, carriage return, space, `%`, `,`, `=` and `@` can't be bare
abbrev pub is_reserved : ℕ → Bool
is_reserved c =
    c == 0 || c == 9 || c == 10 || c == 13 || c == 32 || c == 37 || c == 44 || c == 61 || c == 64

-- a character that may be bare
pub record IsBare (c : ℕ) : Type 0 where
  pub scalar : IsScalar c
  pub free : is_reserved c ≡ false

-- one to eight hexadecimal digits of either case name a character other than U+0000
pub record NamesChar (digits : List ℕ) (c : ℕ) : Type 0 where
  pub numeral : IsNumeral 16 digits
  pub short : length digits ≤ 8
  pub value : c ≡ digits_value 16 digits
  pub scalar : IsScalar c
  pub other : c ≢ 0

-- characters in UTF-8, one after the other, each bare or as an escape `%DIGITS%`
pub data SpellsText : List ℕ → List ℕ → Type 0 where
  end : SpellsText [] []
  bare : (c : ℕ) (bytes text : List ℕ) → IsBare c → SpellsText bytes text
      → SpellsText (encode_utf8 c ++ bytes) (encode_utf8 c ++ text)
  escape : (digits : List ℕ) (c : ℕ) (bytes text : List ℕ) → NamesChar digits c
      → SpellsText bytes text
      → SpellsText (37 ∷ digits ++ 37 ∷ bytes) (encode_utf8 c ++ text)

-- bytes are refused with a fault only if they spell no text within the limits
abbrev pub TextStops : List ℕ → Refusal → Type 0
TextStops bytes WantOfMemory = Unit {0}
TextStops bytes (Fault why) = (text : List ℕ) → IsText text → SpellsText bytes text → ⊥
