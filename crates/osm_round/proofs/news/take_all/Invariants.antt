use Rattle.std.proofs.Common.{◌≡◌, ◌++◌}
use Rattle.std.specs.Vec.Iter.{into_iter_items}
use Rattle.osm_net.specs.Net.{Takes}
use Rattle.osm_round.specs.News.{changes_in}
use Rattle.osm_round.proofs.news.take_all.Given as goal

abbrev pub invariant-loop-changes : goal.invariant-loop-changes
invariant-loop-changes l = record {
  rest : l.yielded ++ into_iter_items l.changes-iterator ≡ l.fn.held.items;
  takes : Takes l.fn.filter l.initial.net (changes_in l.yielded) l.net;
}
