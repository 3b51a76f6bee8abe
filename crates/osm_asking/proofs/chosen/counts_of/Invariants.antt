use Rattle.std.proofs.Common.{◌≡◌, map, take}
use Rattle.osm_asking.specs.Counts.{count_in}
use Rattle.osm_asking.proofs.chosen.counts_of.Given as goal

abbrev pub invariant-loop-id : goal.invariant-loop-id
invariant-loop-id l = l.found.items ≡ map (λ id. (id, count_in l.fn.counts.items id)) (take l.id-index l.ids)
