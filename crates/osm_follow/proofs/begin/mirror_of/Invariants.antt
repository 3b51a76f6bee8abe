use Rattle.std.proofs.Common.{◌≡◌, ◌++◌}
use Rattle.std.specs.Vec.Iter.{into_iter_items}
use Rattle.osm_follow.specs.Begin.{kept_objects}
use Rattle.osm_follow.proofs.begin.mirror_of.Given as goal

abbrev pub invariant-loop-object : goal.invariant-loop-object
invariant-loop-object l = record {
  rest : l.yielded ++ into_iter_items l.object-iterator ≡ l.fn.objects.items;
  entered : l.kept ≡ kept_objects l.filter l.yielded;
}
