use Rattle.osm_opl.proofs.BeginFieldLemmas.{node_begins}
use Rattle.osm_opl.proofs.written.after_node.Goals as goal

pub returns : goal.returns
returns c =
    node_begins c.in_ok-_lon._lon c.in_ok-_lat._lat c.args.bytes.now c.in_ok-rest.rest.now c.in_ok-_lon.rest.now c.in_ok-_lat.rest.now
    c.in_ok-rest.ensures c.in_ok-_lon.ensures c.in_ok-_lat.ensures
