use Rattle.std.proofs.Common.{rules, FitsSigned, w32}
use Rattle.std.proofs.lemmas.Int.{to_z-of_z}
use Rattle.osm_opl.proofs.BeginFieldLemmas.{node_with}
use Rattle.osm_opl.proofs.written.take_node.Goals as goal

pub returns : goal.returns
returns c =
    let lon_fits : FitsSigned w32 c.in-Some-after_coordinate.lon = search rules in
    let lat_fits : FitsSigned w32 c.in-Some-after_coordinate-2.lat = search rules in
    let tags = rw c.in-Some.is at c.in_ok-tags.ensures in
    simp to_z-of_z (node_with c.in-Some.tags c.in-Some-after_coordinate.lon c.in-Some-after_coordinate-2.lat c.args.bytes.now
    c.in-Some.rest.now c.in-Some-after_coordinate.rest.now c.in-Some-after_coordinate-2.rest.now tags
    c.in-Some-after_coordinate.ensures c.in-Some-after_coordinate-2.ensures)
