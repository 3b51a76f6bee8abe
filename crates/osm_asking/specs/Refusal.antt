-- Why a save isn't read.
use Rattle.std.specs.Prelude.{ℕ, List}
use Rattle.osm_blocks.specs.Places.{HasFile, IsHuge}
use Rattle.osm_save.specs.Save.{SpellsSave}
use Rattle.osm_save.specs.declared.save.Saved.{Saved}
use Rattle.osm_store.specs.Frames.{StoreState}
use Rattle.osm_asking.specs.declared.fault.SearchFault.{SearchFault}
use Rattle.osm_asking.specs.declared.fault.SearchFault.TheVariants.{BadHead, BadLine, Failed, Gone}
use Rattle.osm_asking.specs.declared.fault.SearchFault.TheVariants.{TooLarge, WantOfMemory}

-- the device is the reason
abbrev pub IsFailed : SearchFault → Type 0
IsFailed Failed = Unit {0}
IsFailed fault = ⊥

-- the file, if it is known, is the save text of nothing
abbrev pub IsNoText : StoreState → List ℕ → Type 0
IsNoText state name = (file : List ℕ) (v : Saved) → HasFile state name file → SpellsSave file v → ⊥

-- the file, if it is known and a save text, has more bytes than 64 bits count
abbrev pub IsHugeText : StoreState → List ℕ → Type 0
IsHugeText state name =
    (file : List ℕ) (v : Saved) → HasFile state name file → SpellsSave file v → IsHuge file

-- why a save isn't read: a line is bad only if the file is no save text
abbrev pub SearchStops : StoreState → List ℕ → SearchFault → Type 0
SearchStops state name Failed = Unit {0}
SearchStops state name Gone = (file : List ℕ) → HasFile state name file → ⊥
SearchStops state name (BadHead line) = IsNoText state name
SearchStops state name (BadLine place) = IsNoText state name
SearchStops state name TooLarge = IsHugeText state name
SearchStops state name WantOfMemory = Unit {0}
