use Rattle.osm_asking.proofs.PassLemmas.{Passing}
use Rattle.osm_asking.proofs.passing.pass_lines.Given as goal

abbrev pub invariant-loop : goal.invariant-loop
invariant-loop l = Passing l.wanted l.block l.rest l.counter
