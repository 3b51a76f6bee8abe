-- How far a search has come.
use Rattle.std.specs.Prelude.{◌≡◌, ℕ, ◌+◌, ◌<◌, ◌≤◌, ◌++◌, List, [], drop, length, Option, Some}
use Rattle.std.specs.Prelude.{None, Bool, IsTrue}
use Rattle.std.specs.declared.cmp.Ordering.{Ordering}
use Rattle.std.specs.declared.cmp.Ordering.TheVariants.{Equal, Greater, Less}
use Rattle.osm_blocks.specs.Places.{HasFile, IsHuge}
use Rattle.osm_save.specs.declared.save.Saved.{Saved}
use Rattle.osm_reading.specs.Pieces.{cut_at}
use Rattle.osm_store.specs.Frames.{StoreState}
use Rattle.osm_asking.specs.Finding.{IsSpot, StandsAt}
use Rattle.osm_asking.specs.Lines.{HasLines}
use Rattle.osm_asking.specs.Reads.{HasShortLines, NoneBegins}
use Rattle.osm_asking.specs.Steps.Passing.{IsProbed, Lies}
use Rattle.osm_asking.specs.declared.fault.SearchFault.{SearchFault}
use Rattle.osm_asking.specs.declared.fault.SearchFault.TheVariants.{BadHead, BadLine, Failed, Gone}
use Rattle.osm_asking.specs.declared.fault.SearchFault.TheVariants.{TooLarge, WantOfMemory}
use Rattle.osm_asking.specs.declared.find.Ends.{Ends}
use Rattle.osm_asking.specs.declared.find.Spot.{Spot}
use Rattle.osm_asking.specs.declared.side.Wanted.{Wanted}

-- all lines of the objects before that place come before what is wanted, if the lines of a save
-- text begin at the start
pub record IsLow (state : StoreState) (name : List ℕ) (start : ℕ) (wanted : Wanted) (low : ℕ)
    : Type 0 where
  pub above : start ≤ low
  pub stands : (file : List ℕ) (v : Saved) → HasFile state name file → HasLines file start v
      → StandsAt wanted v (drop low file)

-- a line lies there, and begins at that place, which is after another one
pub record Probes (state : StoreState) (name : List ℕ) (from : ℕ) (wanted : Wanted) (place : ℕ)
    (side : Option Ordering) : Type 0 where
  pub above : from ≤ place
  pub near : (file : List ℕ) → HasFile state name file → HasShortLines 16352 file
      → place ≤ from + 16352
  pub is : (file : List ℕ) → HasFile state name file → IsProbed wanted file from place side

-- no line begins after a place of a known file, unless 64 bits don't count it
abbrev pub NoneAfter : StoreState → List ℕ → ℕ → Type 0
NoneAfter state name from = (file : List ℕ) → HasFile state name file
    → length file ≤ 18446744073709551615 → NoneBegins file from

-- the first line after a place lies there, and begins at that place; or none begins
abbrev pub IsProbe : StoreState → List ℕ → ℕ → Wanted → Option (ℕ × Ordering) → Type 0
IsProbe state name from wanted None = NoneAfter state name from
IsProbe state name from wanted (Some (place, side)) =
    Probes state name from wanted place (Some side)

-- why the line after a place isn't looked at: it has no key
abbrev pub ProbeStops : StoreState → List ℕ → ℕ → Wanted → SearchFault → Type 0
ProbeStops state name from wanted Failed = Unit {0}
ProbeStops state name from wanted Gone = (file : List ℕ) → HasFile state name file → ⊥
ProbeStops state name from wanted (BadLine place) = Probes state name from wanted place None
ProbeStops state name from wanted WantOfMemory = Unit {0}
ProbeStops state name from wanted fault = ⊥

-- why a line isn't found: never in a save text whose lines begin at the start, unless it is huge
abbrev pub FindStops : StoreState → List ℕ → ℕ → SearchFault → Type 0
FindStops state name start Failed = Unit {0}
FindStops state name start Gone = (file : List ℕ) → HasFile state name file → ⊥
FindStops state name start (BadLine place) =
    (file : List ℕ) (v : Saved) → HasFile state name file → HasLines file start v → ⊥
FindStops state name start TooLarge =
    (file : List ℕ) (v : Saved) → HasFile state name file → HasLines file start v → IsHuge file
FindStops state name start WantOfMemory = Unit {0}
FindStops state name start (BadHead line) = ⊥

-- why the lines from a place on aren't read
abbrev pub ScanStops : StoreState → List ℕ → ℕ → Wanted → SearchFault → Type 0
ScanStops state name low wanted Failed = Unit {0}
ScanStops state name low wanted Gone = (file : List ℕ) → HasFile state name file → ⊥
ScanStops state name low wanted (BadLine place) =
    (file : List ℕ) (v : Saved) → HasFile state name file → StandsAt wanted v (drop low file) → ⊥
ScanStops state name low wanted TooLarge =
    (file : List ℕ) (v : Saved) → HasFile state name file → StandsAt wanted v (drop low file)
    → IsHuge file
ScanStops state name low wanted WantOfMemory = Unit {0}
ScanStops state name low wanted (BadHead line) = ⊥

-- the line was found, if all before that place was passed
abbrev pub FindsFrom : StoreState → List ℕ → ℕ → Wanted → Spot → Type 0
FindsFrom state name low wanted spot =
    (file : List ℕ) (v : Saved) → HasFile state name file → StandsAt wanted v (drop low file)
    → IsSpot wanted v file spot

-- a place after that one, before which all was passed
pub record Goes (state : StoreState) (name : List ℕ) (low : ℕ) (wanted : Wanted) (place : ℕ)
    : Type 0 where
  pub above : low < place
  pub stands : (file : List ℕ) (v : Saved) → HasFile state name file
      → StandsAt wanted v (drop low file) → StandsAt wanted v (drop place file)

-- where the line at a place lies; none if there is none
abbrev pub LiesAt : StoreState → List ℕ → ℕ → Wanted → Option (ℕ × Ordering) → Type 0
LiesAt state name place wanted None =
    (file : List ℕ) → HasFile state name file → cut_at 10 (drop place file) ≡ None
LiesAt state name place wanted (Some (at, side)) = (at ≡ place) × ((file : List ℕ)
    → HasFile state name file → Lies wanted file place (Some side))

-- why that isn't said: the line has no key
abbrev pub LyingStops : StoreState → List ℕ → ℕ → Wanted → SearchFault → Type 0
LyingStops state name place wanted Failed = Unit {0}
LyingStops state name place wanted Gone = (file : List ℕ) → HasFile state name file → ⊥
LyingStops state name place wanted (BadLine at) = (at ≡ place) × ((file : List ℕ)
    → HasFile state name file → Lies wanted file place None)
LyingStops state name place wanted WantOfMemory = Unit {0}
LyingStops state name place wanted fault = ⊥

-- the lower end goes to a line that comes before what is wanted, both to the line that is wanted,
-- and the others to the middle if nothing before what is wanted begins after it
abbrev pub IsMoved : Ends → ℕ → Option (ℕ × Ordering) → Ends → Type 0
IsMoved ends middle None new =
    new ≡ record { low = ends.low; high = middle; end = middle }
IsMoved ends middle (Some (place, Greater)) new =
    new ≡ record { low = ends.low; high = middle; end = ends.end }
IsMoved ends middle (Some (place, Equal)) new =
    new ≡ record { low = place; high = place; end = ends.end }
IsMoved ends middle (Some (place, Less)) new =
    new ≡ record { low = place; high = ends.high; end = ends.end }

-- a line was looked at after the middle, and the ends were moved
pub record IsStep (state : StoreState) (name : List ℕ) (wanted : Wanted) (ends : Ends) (middle : ℕ)
    (new : Ends) : Type 0 where
  pub probed : Option (ℕ × Ordering)
  pub is : IsProbe state name middle wanted probed
  pub moved : IsMoved ends middle probed new

-- those bytes are the next ones of a known file at that place, and all that are left if they are
-- said to be the last
abbrev pub IsAfter : StoreState → List ℕ → ℕ → List ℕ → Bool → Type 0
IsAfter state name place bytes is_last = (file : List ℕ) → HasFile state name file
    → (rest : List ℕ) × (drop place file ≡ bytes ++ rest) × (IsTrue is_last → rest ≡ [])

-- ---- how many blocks are read

-- whatever stands there or before begins at most a line after that place
abbrev pub IsHigh : Wanted → Saved → List ℕ → ℕ → Type 0
IsHigh wanted v file high = (p : ℕ) → StandsAt wanted v (drop p file) → p ≤ high + 16352

-- whatever stands there or before begins at most a block and a line after that place
abbrev pub IsNear : Wanted → Saved → List ℕ → ℕ → Type 0
IsNear wanted v file low = (p : ℕ) → StandsAt wanted v (drop p file) → p ≤ low + 32736
