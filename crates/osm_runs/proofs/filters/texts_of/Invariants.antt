use Rattle.std.proofs.Common.{◌≡◌, map, take}
use Rattle.osm_runs.proofs.filters.texts_of.Given as goal

abbrev pub invariant-loop-key : goal.invariant-loop-key
invariant-loop-key l = l.texts.items ≡ map (λ key. key.now) (take l.key-index l.keys)
