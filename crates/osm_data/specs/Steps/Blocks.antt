-- Why the datasets of a block aren't read.
use Rattle.std.specs.Prelude.{ℕ, ◌+◌, ◌-◌, ◌≤◌, List, length}
use Rattle.osm_o5c.specs.File.{DataFaultPlace}
use Rattle.osm_data.specs.declared.datasets.Stop.{Stop}
use Rattle.osm_data.specs.declared.datasets.Stop.TheVariants.{WantOfMemory, Fault}

-- the fault is within the bytes, or at their end
abbrev pub IsWithin : ℕ → Stop → Type 0
IsWithin count WantOfMemory = Unit {0}
IsWithin count (Fault passed why) = passed ≤ count

-- the fault is so many bytes after the place where that many bytes of the file are left
abbrev pub StopsAt : List ℕ → ℕ → Stop → Type 0
StopsAt file left WantOfMemory = Unit {0}
StopsAt file left (Fault passed why) = DataFaultPlace file (length file - left + passed)
