-- How blocks are read, and lines in them.
use Rattle.std.specs.Prelude.{ℕ, ◌+◌, ◌≤◌, List, length, take, Option, Vec}
use Rattle.osm_reading.specs.Pieces.{Lacks}
use Rattle.osm_store.specs.Files.{Tells, block_of}

-- the bytes from the start on were read before that place
pub record IsBuffer (buffer : List ℕ) (start from : ℕ) : Type 0 where
  pub within : start ≤ length buffer
  pub behind : length buffer ≤ start + from

-- the answer is the block at that place, of at most so many bytes
abbrev pub IsBlock : {Z : Type 0} → ℕ → ℕ → Option (List ℕ) → Option (Vec ℕ Z) → Type 0
IsBlock from most told block = Tells block (block_of from most told)

-- the first bytes were read, and have no LF
pub record LacksFirst (count : ℕ) (bytes : List ℕ) : Type 0 where
  pub within : count ≤ length bytes
  pub lacks : Lacks 10 (take count bytes)
