-- When a text is refused.
use Rattle.std.specs.Prelude.{ℕ, List}
use Rattle.osm_save.specs.Head.{BeginsSave, HasKeys}
use Rattle.osm_save.specs.Save.{SpellsSave}
use Rattle.osm_save.specs.declared.head.Head.{Head}
use Rattle.osm_save.specs.declared.head.HeadError.{HeadError}
use Rattle.osm_save.specs.declared.head.HeadError.TheVariants as heads
use Rattle.osm_save.specs.declared.save.SaveError.{SaveError}
use Rattle.osm_save.specs.declared.save.SaveError.TheVariants.{BadSave, WantOfMemory}
use Rattle.osm_save.specs.declared.save.Saved.{Saved}

-- a text is bad only if it is the save text of nothing
abbrev pub SaveStops : List ℕ → SaveError → Type 0
SaveStops bytes WantOfMemory = Unit {0}
SaveStops bytes (BadSave line) = (v : Saved) → SpellsSave bytes v → ⊥

-- a head is bad only if the bytes begin with that of no save text, and memory is refused only to
-- bytes that have keys
abbrev pub HeadStops : List ℕ → HeadError → Type 0
HeadStops bytes heads.WantOfMemory = HasKeys bytes
HeadStops bytes (heads.BadHead line) = (head : Head) → BeginsSave bytes head → ⊥
