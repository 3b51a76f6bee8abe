use Rattle.osm_asking.proofs.SideLemmas.{begun, not_begun}
use Rattle.osm_asking.proofs.side.side_of.Goals as goal

pub returns-then-begins_object : goal.returns-then-begins_object
returns-then-begins_object c =
    begun c.args.wanted c.args.line.now c.begins_object.result c.object_key.result c.side_of_key.result c.begins_object.ensures c.if-begins_object.true
    c.object_key.ensures c.side_of_key.ensures

pub returns : goal.returns
returns c = not_begun c.args.wanted c.args.line.now c.begins_object.result c.begins_object.ensures c.if-begins_object.false
