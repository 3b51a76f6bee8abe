use Rattle.std.proofs.Common.{◌≡◌, ◌++◌, [], FitsSigned, OnErr, OnOk, rules, refl, to_z-of_z, w32}
use Rattle.osm_model.specs.declared.change.What.TheVariants as whats
use Rattle.osm_opl.specs.Room.{LacksRoom}
use Rattle.osm_opl.specs.Steps.Writing.{node_text}
use Rattle.osm_opl.specs.Written.{line_text}
use Rattle.osm_opl.proofs.WrittenLemmas.{no_item, untagged}
use Rattle.osm_opl.proofs.lines.append_line.Goals as goal

-- the line of the node is that of the change
pub returns-in-Node-clause-ok : goal.returns-in-Node-clause-ok
returns-in-Node-clause-ok c =
    let none : c.in-Node.tags ≡ [] =
    no_item c.in-Node.tags c.is_empty.result (rw (← c.as_slice.ensures.parts) c.is_empty.ensures) c.if-is_empty.true in
    let is : c.args.change.now.what ≡ whats.Node c.in-Node.lon c.in-Node.lat [] =
    rw (← c.what.ensures, c.in-Node.is, none) refl in
    let text : node_text c.key.result c.meta-in-Node.result.now c.in-Node.lon c.in-Node.lat ≡ line_text c.args.change.now =
    rw (c.key.ensures.key, c.meta-in-Node.ensures) (untagged c.args.change.now c.in-Node.lon c.in-Node.lat is) in
    let lon : FitsSigned w32 c.in-Node.lon = search rules in
    let lat : FitsSigned w32 c.in-Node.lat = search rules in
    let ok : OnOk c.write_short_node.result (c.write_short_node.new.out.items
    ≡ c.args.out.now.items ++ node_text c.key.result c.meta-in-Node.result.now c.in-Node.lon c.in-Node.lat) =
    simp to_z-of_z at c.write_short_node.ensures.ok in
    rw (← text) ok

pub returns-in-Node-clause-refused : goal.returns-in-Node-clause-refused
returns-in-Node-clause-refused c =
    let none : c.in-Node.tags ≡ [] =
    no_item c.in-Node.tags c.is_empty.result (rw (← c.as_slice.ensures.parts) c.is_empty.ensures) c.if-is_empty.true in
    let is : c.args.change.now.what ≡ whats.Node c.in-Node.lon c.in-Node.lat [] =
    rw (← c.what.ensures, c.in-Node.is, none) refl in
    let text : node_text c.key.result c.meta-in-Node.result.now c.in-Node.lon c.in-Node.lat ≡ line_text c.args.change.now =
    rw (c.key.ensures.key, c.meta-in-Node.ensures) (untagged c.args.change.now c.in-Node.lon c.in-Node.lat is) in
    let lon : FitsSigned w32 c.in-Node.lon = search rules in
    let lat : FitsSigned w32 c.in-Node.lat = search rules in
    let refused : OnErr c.write_short_node.result
    (LacksRoom c.args.out.now (node_text c.key.result c.meta-in-Node.result.now c.in-Node.lon c.in-Node.lat)) =
    simp to_z-of_z at c.write_short_node.ensures.refused in
    rw (← text) refused
