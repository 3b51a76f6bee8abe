use Rattle.osm_net.proofs.KindLemmas.{kinds_rise}
use Rattle.osm_net.proofs.objects.NetObjects.limits.Goals as goal

pub returns-clause-rising : goal.returns-clause-rising
returns-clause-rising c =
    rw (← c.self.view_is)
    (kinds_rise c.self.inside.nodes c.self.inside.ways c.self.inside.relations c.limits.ensures c.limits-2.ensures c.limits-3.ensures)
