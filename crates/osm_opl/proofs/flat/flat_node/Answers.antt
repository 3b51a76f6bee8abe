use Rattle.std.proofs.Common.{rules, FitsSigned, w32}
use Rattle.std.proofs.lemmas.Int.{to_z-of_z}
use Rattle.osm_opl.proofs.FlatLemmas.{node_flat}
use Rattle.osm_opl.proofs.flat.flat_node.Goals as goal

pub returns : goal.returns
returns c =
    let lon_fits : FitsSigned w32 c.in_ok-lon.lon = search rules in
    let lat_fits : FitsSigned w32 c.in_ok-lat.lat = search rules in
    simp to_z-of_z (node_flat c.in_ok-lon.lon c.in_ok-lat.lat c.in_ok-tags.tags.now c.args.bytes.now c.in_ok-tags.rest.now
    c.in_ok-lon.rest.now c.in_ok-lat.rest.now c.in_ok-tags.ensures c.in_ok-lon.ensures c.in_ok-lat.ensures)
