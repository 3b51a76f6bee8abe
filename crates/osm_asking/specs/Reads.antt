-- How many blocks of a save are read for a line.
use Rattle.std.specs.Prelude.{◌≡◌, ◌≢◌, ℕ, ◌+◌, ◌^◌, ◌≤◌, List, [], length, take, drop}
use Rattle.std.specs.Prelude.{Some, None}
use Rattle.osm_blocks.specs.Calls.{blocks_in}
use Rattle.osm_blocks.specs.Places.{HasFile}
use Rattle.osm_reading.specs.Pieces.{cut_at}
use Rattle.osm_save.specs.Save.{SpellsSave}
use Rattle.osm_save.specs.declared.save.Saved.{Saved}
use Rattle.osm_store.specs.Frames.{StoreState}
use Rattle.osm_asking.specs.Lines.{HasLines, lines_from}

-- the most blocks that are read for a line
abbrev pub most_reads : ℕ
most_reads = 57

-- no line has more bytes than that, with its LF
abbrev pub HasShortLines : ℕ → List ℕ → Type 0
HasShortLines most file =
    (place : ℕ) → place + most ≤ length file → cut_at 10 (take most (drop place file)) ≢ None

-- no line begins after that place
abbrev pub NoneBegins : List ℕ → ℕ → Type 0
NoneBegins file place =
    (skipped after : List ℕ) → cut_at 10 (drop place file) ≡ Some (skipped, after)
    → cut_at 10 after ≡ None

-- a known file is the save text of that, with at most 2^40 bytes and 16,352 in each line: 32 fewer
-- than in a block
pub record IsPlainText (state : StoreState) (name : List ℕ) (start : ℕ) (file : List ℕ) (v : Saved)
    : Type 0 where
  pub has : HasFile state name file
  pub lines : HasLines file start v
  pub few : length file ≤ 2 ^ 40
  pub short : HasShortLines 16352 file

-- the same without the place of the lines
pub record IsPlainSave (state : StoreState) (name : List ℕ) (file : List ℕ) (v : Saved) : Type 0
  where
    pub has : HasFile state name file
    pub spells : SpellsSave file v
    pub few : length file ≤ 2 ^ 40
    pub short : HasShortLines 16352 file

-- the most calls that it takes to read the counts of a save: those for its head and its journal,
-- those that find the end of its objects, and one for each block of the lines after them
abbrev pub most_counting : Saved → ℕ
most_counting v = 65 + blocks_in (length (lines_from [] v.mirror))
