use Rattle.osm_net.proofs.IndexLemmas.{all_rise, numbered_rise}
use Rattle.osm_net.specs.Steps.Index.{numbered}
use Rattle.osm_net.proofs.index.Index.limits.Goals as goal

pub returns : goal.returns
returns c =
    rw (← c.self.view_is)
    (all_rise c.self.inside.others.entries (numbered 0 c.self.inside.rising.items) (numbered_rise 0 c.self.inside.rising.items c.self.invariant))
