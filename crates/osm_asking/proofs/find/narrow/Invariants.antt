use Rattle.osm_asking.proofs.CallLemmas.{Narrowing}
use Rattle.osm_asking.proofs.find.narrow.Given as goal

abbrev pub invariant-loop : goal.invariant-loop
invariant-loop g l =
    Narrowing (g.S.Store.state l.fn.store) (g.S.Store.state l.store) l.fn.name l.fn.start l.fn.wanted l.fn.end l.ends l.distance l.counter
