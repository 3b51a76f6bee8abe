use Rattle.std.proofs.Common.{◌≡◌, ◌++◌}
use Rattle.std.specs.Vec.Iter.{into_iter_items}
use Rattle.osm_net.proofs.RecentLemmas.{AreTaken}
use Rattle.osm_net.proofs.net.Net.take.Given as goal

abbrev pub invariant-loop-change : goal.invariant-loop-change
invariant-loop-change l = record {
  rest : l.yielded ++ into_iter_items l.change-iterator ≡ l.fn.changes.items;
  taken : AreTaken l.fn.filter l.initial.self l.self l.users l.changesets l.yielded;
}
