-- Strings, and the table of those that references name (OSM wiki, O5m: strings).
use Rattle.std.specs.Prelude.{◌≡◌, ℕ, ◌+◌, ◌-◌, List, [], ◌∷◌, ◌++◌, length, Contains, Option, Some}
use Rattle.std.specs.Prelude.{None, slice_get, nat_le, ◌&&◌, if◌then◌else◌}
use Rattle.osm_o5c.specs.Number.{SpellsNumber}
use Rattle.osm_o5c.specs.declared.strings.Entry.{Entry}
use Rattle.osm_o5c.specs.declared.strings.Entry.TheVariants.{Pair, Single}

-- the size of a string in bytes; a pair counts as both together
abbrev pub size_of : Entry → ℕ
size_of (Pair first second) = length first + length second
size_of (Single text) = length text

-- the size of the longest string that is entered
abbrev pub max_size : ℕ
max_size = 250

-- how many of the latest entries a reference can name
abbrev pub max_entries : ℕ
max_entries = 15000

-- the strings in line that are entered: all except those that are too long, equal ones included
abbrev pub entries_of : List Entry → List Entry
entries_of [] = []
entries_of (s ∷ ss) = if nat_le (size_of s) max_size then s ∷ entries_of ss else entries_of ss

-- the k-th most recent entry, counted from 1, if there is one that a reference can name
abbrev pub named : List Entry → ℕ → Option Entry
named entries k =
    if nat_le 1 k && nat_le k max_entries && nat_le k (length entries)
    then slice_get entries (length entries - k) else None

-- a pair of strings: `00 first 00 second 00`, or the number of an entry that is this pair; with the
-- strings in line since the last reset, before it and after it
pub data SpellsPair : List Entry → List ℕ → List ℕ → List ℕ → List Entry → Type 0 where
  in_line : (strings : List Entry) (first second : List ℕ)
      → ¬ Contains first 0 → ¬ Contains second 0
      → SpellsPair strings (0 ∷ first ++ 0 ∷ second ++ 0 ∷ []) first second
      (strings ++ Pair first second ∷ [])
  reference : (strings : List Entry) (bytes : List ℕ) (k : ℕ) (first second : List ℕ)
      → SpellsNumber bytes k → named (entries_of strings) k ≡ Some (Pair first second)
      → SpellsPair strings bytes first second strings

-- a single string: `00 text 00`, or the number of an entry that is this single string
pub data SpellsSingle : List Entry → List ℕ → List ℕ → List Entry → Type 0 where
  in_line_single : (strings : List Entry) (text : List ℕ) → ¬ Contains text 0
      → SpellsSingle strings (0 ∷ text ++ 0 ∷ []) text (strings ++ Single text ∷ [])
  reference_single : (strings : List Entry) (bytes : List ℕ) (k : ℕ) (text : List ℕ)
      → SpellsNumber bytes k → named (entries_of strings) k ≡ Some (Single text)
      → SpellsSingle strings bytes text strings
