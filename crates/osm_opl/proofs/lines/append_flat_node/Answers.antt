use Rattle.std.proofs.Common.{◌≡◌, ◌++◌, ◌∙◌, [], FitsSigned, OnErr, OnOk, ap, rules, to_z-of_z, true, w32, w64}
use Rattle.osm_model.specs.Flat.{flat_meta, flat_node}
use Rattle.osm_model.specs.Meta.{MetaValue}
use Rattle.osm_opl.specs.Flat.{meta_of}
use Rattle.osm_opl.specs.Room.{LacksRoom}
use Rattle.osm_opl.specs.Steps.Writing.{line_start, location_text, node_text}
use Rattle.osm_opl.specs.Written.{items_text, tag_text}
use Rattle.osm_opl.proofs.WrittenLemmas.{flat_line, no_item}
use Rattle.osm_opl.proofs.lines.append_flat_node.Goals as goal

pub returns-then-is_short-clause-ok : goal.returns-then-is_short-clause-ok
returns-then-is_short-clause-ok c =
    let node = c.args.node.now in
    let key = (flat_node node []).key in
    let none : c.args.tags.now ≡ [] = no_item c.args.tags.now c.is_empty.result c.is_empty.ensures c.if-is_empty.true in
    let id : FitsSigned w64 node.id = search rules in
    let lon : FitsSigned w32 node.lon = search rules in
    let lat : FitsSigned w32 node.lat = search rules in
    let meta : MetaValue = meta_of c.numbers_in-numbers.result c.as_bytes.result.now in
    let same : meta ≡ flat_meta node.meta =
    ap (meta_of c.numbers_in-numbers.result) c.as_bytes.ensures.value ∙ c.numbers_in-numbers.ensures.all in
    let ok : OnOk c.append_short_node.result
    (c.append_short_node.new.out.items ≡ c.args.out.now.items ++ node_text key meta node.lon node.lat) =
    simp to_z-of_z at c.append_short_node.ensures.ok in
    rw (none, ← flat_line node [] meta same) ok

pub returns-then-is_short-clause-refused : goal.returns-then-is_short-clause-refused
returns-then-is_short-clause-refused c =
    let node = c.args.node.now in
    let key = (flat_node node []).key in
    let none : c.args.tags.now ≡ [] = no_item c.args.tags.now c.is_empty.result c.is_empty.ensures c.if-is_empty.true in
    let id : FitsSigned w64 node.id = search rules in
    let lon : FitsSigned w32 node.lon = search rules in
    let lat : FitsSigned w32 node.lat = search rules in
    let meta : MetaValue = meta_of c.numbers_in-numbers.result c.as_bytes.result.now in
    let same : meta ≡ flat_meta node.meta =
    ap (meta_of c.numbers_in-numbers.result) c.as_bytes.ensures.value ∙ c.numbers_in-numbers.ensures.all in
    let refused : OnErr c.append_short_node.result (LacksRoom c.args.out.now (node_text key meta node.lon node.lat)) =
    simp to_z-of_z at c.append_short_node.ensures.refused in
    rw (none, ← flat_line node [] meta same) refused

pub returns-else-is_empty-clause-ok : goal.returns-else-is_empty-clause-ok
returns-else-is_empty-clause-ok c =
    let node = c.args.node.now in
    let tags = c.args.tags.now in
    let key = (flat_node node tags).key in
    let id : FitsSigned w64 node.id = search rules in
    let lon : FitsSigned w32 node.lon = search rules in
    let lat : FitsSigned w32 node.lat = search rules in
    let meta : MetaValue = meta_of c.numbers_in-numbers.result node.meta.user.now in
    let ok : OnOk c.append_node_parts.result (c.append_node_parts.new.out.items
    ≡ c.args.out.now.items ++ (line_start key true meta ++ (items_text tag_text tags ++ location_text node.lon node.lat))) =
    simp to_z-of_z at c.append_node_parts.ensures.ok in
    rw (← flat_line node tags meta c.numbers_in-numbers.ensures.all) ok

pub returns-else-is_empty-clause-refused : goal.returns-else-is_empty-clause-refused
returns-else-is_empty-clause-refused c =
    let node = c.args.node.now in
    let tags = c.args.tags.now in
    let key = (flat_node node tags).key in
    let id : FitsSigned w64 node.id = search rules in
    let lon : FitsSigned w32 node.lon = search rules in
    let lat : FitsSigned w32 node.lat = search rules in
    let meta : MetaValue = meta_of c.numbers_in-numbers.result node.meta.user.now in
    let refused : OnErr c.append_node_parts.result (LacksRoom c.args.out.now
    (line_start key true meta ++ (items_text tag_text tags ++ location_text node.lon node.lat))) =
    simp to_z-of_z at c.append_node_parts.ensures.refused in
    rw (← flat_line node tags meta c.numbers_in-numbers.ensures.all) refused
