-- What the lines of a block come to.
use Rattle.std.specs.Prelude.{◌≡◌, ℕ, ◌+◌, ◌<◌, ◌≤◌, List, drop, length, None}
use Rattle.std.specs.Ordering.{is_eq}
use Rattle.std.specs.declared.cmp.Ordering.{Ordering}
use Rattle.std.specs.declared.cmp.Ordering.TheVariants.{Equal}
use Rattle.osm_reading.specs.Pieces.{cut_at}
use Rattle.osm_store.specs.Frames.{StoreState}
use Rattle.osm_blocks.specs.Places.{HasFile}
use Rattle.osm_asking.specs.Finding.{IsWhole}
use Rattle.osm_asking.specs.Steps.Passing.{Passes}
use Rattle.osm_asking.specs.Steps.Searching.{FindsFrom, Goes}
use Rattle.osm_asking.specs.declared.fault.SearchFault.{SearchFault}
use Rattle.osm_asking.specs.declared.fault.SearchFault.TheVariants.{BadLine, Failed, Gone}
use Rattle.osm_asking.specs.declared.fault.SearchFault.TheVariants.{TooLarge, WantOfMemory}
use Rattle.osm_asking.specs.declared.find.Scanned.{Scanned}
use Rattle.osm_asking.specs.declared.find.Scanned.TheVariants.{Found, Further}
use Rattle.osm_asking.specs.declared.side.Wanted.{Wanted}
use Rattle.std.specs.Prelude.{Some}

-- the line was found, which a known file has, or the lines that were passed end at that place
abbrev pub IsScanned : StoreState → List ℕ → ℕ → Wanted → Scanned → Type 0
IsScanned state name low wanted (Found spot) =
    FindsFrom state name low wanted spot
    × ((file : List ℕ) → HasFile state name file → IsWhole file spot)
IsScanned state name low wanted (Further place) = Goes state name low wanted place

-- the place is that after so many bytes of a block, which has no LF after them
abbrev pub IsFurther : Wanted → ℕ → List ℕ → Scanned → Type 0
IsFurther wanted place block (Found spot) = Unit {0}
IsFurther wanted place block (Further next) = (count : ℕ) × (next ≡ place + count)
    × Passes wanted block count × (cut_at 10 (drop count block) ≡ None)

-- the first line from a place on was passed, and the one at the next place ends after a block
pub record Reaches (file : List ℕ) (place next : ℕ) : Type 0 where
  pub first : (line after : List ℕ) → cut_at 10 (drop place file) ≡ Some (line, after)
      → place + length line < next
  pub beyond : (line after : List ℕ) → cut_at 10 (drop next file) ≡ Some (line, after)
      → place + 16384 ≤ next + length line

-- that is so of the lines that were passed
abbrev pub GoesFar : List ℕ → ℕ → Scanned → Type 0
GoesFar file place (Found spot) = Unit {0}
GoesFar file place (Further next) = Reaches file place next

-- why no further place is given: no line was passed, or 64 bits don't count the place
abbrev pub FurtherStops : ℕ → ℕ → SearchFault → Type 0
FurtherStops place count (BadLine at) = count ≡ 0
FurtherStops place count TooLarge = 18446744073709551615 < place + count
FurtherStops place count fault = ⊥

-- the first line, if it is what is wanted
abbrev pub IsLineIn : List ℕ → Ordering → List ℕ → Type 0
IsLineIn bytes side line =
    side ≡ Equal → (rest first : List ℕ) → cut_at 10 bytes ≡ Some (first, rest) → line ≡ first

-- what was found, which is that of the bytes
abbrev pub IsFoundIn : List ℕ → ℕ → Ordering → Scanned → Type 0
IsFoundIn bytes at side (Found spot) =
    (spot.place ≡ at) × IsLineIn bytes side spot.line.items × (spot.is_there ≡ is_eq side)
IsFoundIn bytes at side (Further place) = ⊥

-- why it isn't given
abbrev pub FoundStops : ℕ → SearchFault → Type 0
FoundStops at TooLarge = 18446744073709551615 < at
FoundStops at WantOfMemory = Unit {0}
FoundStops at fault = ⊥

-- the bytes or memory are the reason
abbrev pub IsOfBytes : SearchFault → Type 0
IsOfBytes Failed = ⊥
IsOfBytes Gone = ⊥
IsOfBytes fault = Unit {0}
