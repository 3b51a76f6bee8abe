use Rattle.std.proofs.Common.{[], ◌∷◌, FitsSigned, rules, refl, to_z-of_z, w64}
use Rattle.std.specs.Prelude.{IsTrue, ◌↔◌}
use Rattle.osm_model.specs.Flat.{flat_node}
use Rattle.osm_data.specs.Steps.Keys.{IsBelow}
use Rattle.osm_data.proofs.O5mPassingLemmas.{low_step, not_below, object_step, one_part, refused_step}
use Rattle.osm_data.proofs.o5m_passing.pass_dataset.Goals as goal

pub returns-in-Err-clause-refused : goal.returns-in-Err-clause-refused
returns-in-Err-clause-refused g c = refused_step c.args.reader.now c.args.last.now c.args.bytes.now c.in-Err.refusal c.in-Err.ensures.refused

pub returns-then-not-is_below-clause-refused : goal.returns-then-not-is_below-clause-refused
returns-then-not-is_below-clause-refused g c =
    let id : FitsSigned w64 c.in-Some.node.id = search rules in
    let node = flat_node c.in-Some.node c.flat_node.new.tags.items in
    let both : IsTrue c.is_below.result ↔ IsBelow c.args.last.now node.key = simp to_z-of_z at c.is_below.ensures in
    low_step c.args.reader.now c.flat_node.new.self c.args.last.now c.args.bytes.now c.in-Some.rest.now node
    (rw c.in-Some.is at c.in-Ok.ensures.node)
    (not_below c.is_below.result c.args.last.now node.key both c.if-not-is_below.true)

pub returns-clause-passed : goal.returns-clause-passed
returns-clause-passed g c =
    let id : FitsSigned w64 c.in-Some.node.id = search rules in
    let node = flat_node c.in-Some.node c.flat_node.new.tags.items in
    let below : IsBelow c.args.last.now node.key = simp to_z-of_z at (c.is_below.ensures.0 c.if-not-is_below.false) in
    simp to_z-of_z (record {
      objects = node ∷ [];
      read = object_step c.args.reader.now _ c.args.bytes.now c.in-Some.rest.now node (rw c.in-Some.is at c.in-Ok.ensures.node);
      part = one_part c.args.last.now node (rw c.in-Some.is at c.in-Ok.ensures.limits) refl below;
      key = refl;
      taken = rw c.as_slice.ensures.value at c.in-Ok-take_node.ensures;
    })
