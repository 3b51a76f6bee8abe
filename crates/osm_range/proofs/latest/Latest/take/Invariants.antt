use Rattle.std.proofs.Common.{◌≡◌, ◌++◌}
use Rattle.std.specs.Vec.Iter.{into_iter_items}
use Rattle.osm_range.specs.Handed.{Takes}
use Rattle.osm_range.proofs.latest.Latest.take.Given as goal

abbrev pub invariant-loop-change : goal.invariant-loop-change
invariant-loop-change l = record {
  rest : l.yielded ++ into_iter_items l.change-iterator ≡ l.fn.changes.items;
  taken : Takes l.fn.filter l.initial.self l.yielded l.self;
}
