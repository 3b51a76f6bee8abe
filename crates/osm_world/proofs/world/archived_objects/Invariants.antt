use Rattle.osm_world.specs.Step.{IsFed}
use Rattle.osm_world.proofs.world.archived_objects.Given as goal

abbrev pub invariant-loop-index : goal.invariant-loop-index
invariant-loop-index l = IsFed l.fn.filter l.fn.archive l.index l.giver
