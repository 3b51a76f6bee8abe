use Rattle.osm_opl.proofs.FlatLemmas.{relation_flat}
use Rattle.osm_opl.proofs.flat.flat_relation.Goals as goal

pub returns : goal.returns
returns c =
    relation_flat c.in_ok-members.members c.in_ok-tags.tags.now c.args.bytes.now c.in_ok-tags.rest.now c.in_ok-members.rest.now
    c.in_ok-tags.ensures c.in_ok-members.ensures
