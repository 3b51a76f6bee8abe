use Rattle.osm_repl.proofs.PartLemmas.{Follows, measure}
use Rattle.osm_repl.proofs.execution.follow_and_print.Given as goal

abbrev pub invariant-parts : goal.invariant-parts
invariant-parts g l = Follows l.fn.order l.fn.options l.fn.sizes (g.S.Store.state l.fn.store) (g.W.Write.contents l.fn.writer) (record {
  options = l.options;
  store = g.S.Store.state l.store;
  printed = g.W.Write.contents l.writer;
})

abbrev pub decreases-parts : goal.decreases-parts
decreases-parts g l = measure l.options.limit
