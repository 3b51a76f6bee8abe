use Rattle.osm_asking.proofs.SumLemmas.{any_closed}
use Rattle.osm_asking.proofs.sums.close_in.Goals as goal

pub returns-in-Some-clause-closed : goal.returns-in-Some-clause-closed
returns-in-Some-clause-closed c =
    rw c.in-Some.is (any_closed c.close.result c.in-Some.blocks c.close.new.self c.close.ensures.line c.close.ensures.next c.close.ensures.every)
