-- Blocks that are read of a file.
use Rattle.std.specs.Prelude.{◌≡◌, ℕ, ◌<◌, List, [], ◌++◌, length, take, drop, None}
use Rattle.std.specs.Prelude.{Result}
use Rattle.osm_blocks.specs.Places.{HasFile}
use Rattle.osm_reading.specs.Pieces.{cut_at}
use Rattle.osm_store.specs.Frames.{MakesAtMost, StoreState}
use Rattle.osm_asking.specs.Reads.{HasShortLines}
use Rattle.osm_asking.specs.Refusal.{IsFailed}
use Rattle.osm_asking.specs.declared.fault.SearchFault.{SearchFault}
use Rattle.osm_asking.specs.declared.fault.SearchFault.TheVariants.{Failed, Gone}
use Rattle.osm_asking.specs.declared.fault.SearchFault.TheVariants.{WantOfMemory}

-- the bytes are the first ones of a file from that place on: all of them, if they have no LF
pub record IsBlockAt (file : List ℕ) (from : ℕ) (bytes : List ℕ) : Type 0 where
  pub rest : List ℕ
  pub parts : drop from file ≡ bytes ++ rest
  pub whole : cut_at 10 bytes ≡ None → bytes ≡ drop from file
  pub last : length bytes < 16384 → rest ≡ []

-- the bytes are the first block of a file with short lines from that place on
abbrev pub IsShortBlock : StoreState → List ℕ → ℕ → List ℕ → Type 0
IsShortBlock state name from bytes =
    (file : List ℕ) → HasFile state name file → HasShortLines 16352 file
    → bytes ≡ take 16384 (drop from file)

-- why no block is read
abbrev pub BlockStops : StoreState → List ℕ → SearchFault → Type 0
BlockStops state name Failed = Unit {0}
BlockStops state name Gone = (file : List ℕ) → HasFile state name file → ⊥
BlockStops state name WantOfMemory = Unit {0}
BlockStops state name fault = ⊥

-- the bytes are those of a known file from that place on
abbrev pub IsBlockIn : StoreState → List ℕ → ℕ → List ℕ → Type 0
IsBlockIn state name from bytes =
    (file : List ℕ) → HasFile state name file → IsBlockAt file from bytes

-- at most so many blocks were read of a file with short lines
abbrev pub ReadsFew : {T : Type 0} → ℕ → StoreState → StoreState → List ℕ
    → Result T SearchFault → Type 0
ReadsFew most old new name result = (file : List ℕ) → HasFile old name file
    → HasShortLines 16352 file → MakesAtMost IsFailed most old new result
