use Rattle.osm_opl.proofs.FlatLemmas.{way_flat}
use Rattle.osm_opl.proofs.flat.flat_way.Goals as goal

pub returns : goal.returns
returns c =
    way_flat c.in_ok-refs.refs c.in_ok-tags.tags.now c.args.bytes.now c.in_ok-tags.rest.now c.in_ok-refs.rest.now
    c.in_ok-tags.ensures c.in_ok-refs.ensures
