use Rattle.std.proofs.Common.{◌≡◌, map}
use Rattle.std.specs.Map.Iter.{deref_pair}
use Rattle.osm_asking.specs.Steps.Referring.{left_in}
use Rattle.osm_asking.proofs.referred.Referred.left.Given as goal

abbrev pub invariant-loop-key : goal.invariant-loop-key
invariant-loop-key l = l.left.items ≡ left_in (map deref_pair l.yielded)
