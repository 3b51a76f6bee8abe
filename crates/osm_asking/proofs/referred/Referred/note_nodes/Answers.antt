use Rattle.std.proofs.Common.{arith, get_or, pos}
use Rattle.std.proofs.lemmas.List.{get_or_default}
use Rattle.osm_asking.specs.Referring.{node_key}
use Rattle.osm_asking.proofs.ReferredLemmas.{noted_more}
use Rattle.osm_asking.proofs.referred.Referred.note_nodes.Goals as goal

pub loop-id-preserved : goal.loop-id-preserved
loop-id-preserved c =
    let id = get_or c.args.ids.now c.loop-id.id-index (pos 0) in
    noted_more node_key c.args.self.now.keys.entries c.loop-id.self.keys.entries c.note_node.new.self.keys.entries c.args.ids.now
    c.loop-id.id-index id c.loop-id.invariant (omega arith)
    (get_or_default c.args.ids.now c.loop-id.id-index (pos 0) id (omega arith)) c.in_ok-note_node.ensures
