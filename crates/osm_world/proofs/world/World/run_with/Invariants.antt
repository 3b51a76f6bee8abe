use Rattle.std.specs.Vec.Iter.{into_iter_items}
use Rattle.std.specs.Vec.{vec_capacity}
use Rattle.std.proofs.Common.{◌≤◌, ◌++◌, ◌≡◌, length}
use Rattle.osm_world.specs.Correct.{IsRun}
use Rattle.osm_world.specs.World.{new_world_of}
use Rattle.osm_world.proofs.world.World.run_with.Given as goal

abbrev pub invariant-loop-event : goal.invariant-loop-event
invariant-loop-event l = record {
  room : length l.fn.events.items ≤ vec_capacity l.replies;
  rest : l.yielded ++ into_iter_items l.event-iterator ≡ l.fn.events.items;
  many : length l.replies.items ≡ length l.yielded;
  run : IsRun l.fn.filter l.yielded l.replies.items l.world;
  none : length l.yielded ≡ 0 → l.world ≡ new_world_of l.fn.filter;
}
