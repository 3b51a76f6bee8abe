-- Copying a file of a store in memory.
use Rattle.std.specs.Prelude.{ℕ, List, Option}
use Rattle.osm_store.specs.Files.{IsOver}
use Rattle.osm_store.specs.declared.store.StoreError.{StoreError}
use Rattle.osm_store.specs.declared.store.StoreError.TheVariants.{Device, TooLarge, WantOfMemory}

-- why a file in memory isn't copied
abbrev pub CopyStops : ℕ → Option (List ℕ) → StoreError → Type 0
CopyStops limit told Device = ⊥
CopyStops limit told TooLarge = IsOver limit told
CopyStops limit told WantOfMemory = Unit {0}
