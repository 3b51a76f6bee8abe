-- The keys that are left, of entries as they lie in the map.
use Rattle.std.specs.Prelude.{Bool, true, false, List, [], ◌∷◌}
use Rattle.osm_model.specs.declared.kind.Key.{Key}

abbrev pub left_in : List (Key × Bool) → List Key
left_in [] = []
left_in ((k, true) ∷ es) = k ∷ left_in es
left_in ((k, false) ∷ es) = left_in es
