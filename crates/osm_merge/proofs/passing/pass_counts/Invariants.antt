use Rattle.osm_merge.proofs.PassLemmas.{Passing}
use Rattle.osm_merge.proofs.passing.pass_counts.Given as goal

abbrev pub invariant-loop : goal.invariant-loop
invariant-loop g l = Passing (g.S.Store.state l.fn.store) (g.S.Store.state l.store) l.fn.name l.fn.most l.fn.many l.counter l.last l.fn.source l.source
