use Rattle.std.proofs.Common.{◌<◌, ◌^◌}
use Rattle.osm_opl.proofs.FractionLemmas.{Stripped}
use Rattle.osm_opl.proofs.coordinates.one_before.Given as goal

abbrev pub invariant-loop-number : goal.invariant-loop-number
invariant-loop-number l = (Stripped l.part l.number) × (l.number < 10 ^ 8)

abbrev pub decreases-loop-number : goal.decreases-loop-number
decreases-loop-number l = l.number
