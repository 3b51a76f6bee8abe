use Rattle.osm_asking.proofs.SideLemmas.{started, unstarted}
use Rattle.osm_asking.proofs.side.side_of_start.Goals as goal

pub returns-then-begins_object : goal.returns-then-begins_object
returns-then-begins_object c =
    started c.args.wanted c.args.start.now c.begins_object.result c.start_key.result c.side_of_key.result c.requires c.begins_object.ensures
    c.if-begins_object.true c.start_key.ensures c.side_of_key.ensures

pub returns : goal.returns
returns c = unstarted c.args.wanted c.args.start.now c.begins_object.result c.requires c.begins_object.ensures c.if-begins_object.false
