use Rattle.std.proofs.Common.{◌≡◌, ◌++◌, length}
use Rattle.std.specs.Vec.Iter.{into_iter_items}
use Rattle.osm_mirror.specs.Mirror.{Applies}
use Rattle.osm_mirror.specs.Room.{GrowsBy}
use Rattle.osm_mirror.proofs.mirror.Mirror.apply.Given as goal

abbrev pub invariant-loop-change : goal.invariant-loop-change
invariant-loop-change l = record {
  rest : l.yielded ++ into_iter_items l.change-iterator ≡ l.fn.changes.items;
  applied : Applies l.fn.filter l.initial.self l.yielded l.self;
  grown : GrowsBy (length l.yielded) l.initial.self l.self;
}
