-- The keys of a data file's objects, each above the one before.
use Rattle.std.specs.Prelude.{◌≡◌, Option, Some, None}
use Rattle.std.specs.declared.cmp.Ordering.TheVariants.{Less}
use Rattle.osm_model.specs.KeyOrder.{key_cmp}
use Rattle.osm_model.specs.declared.kind.Key.{Key}

-- the key is above the last one, if there is one
abbrev pub IsBelow : Option Key → Key → Type 0
IsBelow None key = Unit {0}
IsBelow (Some last) key = key_cmp last key ≡ Less
