use Rattle.osm_asking.proofs.CallLemmas.{Scanning}
use Rattle.osm_asking.proofs.find.scan.Given as goal

abbrev pub invariant-loop : goal.invariant-loop
invariant-loop g l = Scanning (g.S.Store.state l.fn.store) (g.S.Store.state l.store) l.fn.name l.fn.low l.fn.wanted l.place l.counter
