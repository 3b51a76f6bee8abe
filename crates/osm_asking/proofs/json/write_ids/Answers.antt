use Rattle.std.proofs.Common.{arith, get_or, pos}
use Rattle.std.specs.Fmt.{signed_decimal}
use Rattle.std.proofs.lemmas.List.{get_or_default}
use Rattle.osm_opl.proofs.WrittenLemmas.{items_more}
use Rattle.osm_asking.proofs.json.write_ids.Goals as goal

pub loop-id-preserved : goal.loop-id-preserved
loop-id-preserved c =
    let id = get_or c.args.ids.now c.loop-id.id-index (pos 0) in
    items_more signed_decimal c.args.out.now.items c.loop-id.out.items c.write_id.new.out.items c.args.ids.now c.loop-id.is_first
    c.loop-id.id-index id c.loop-id.invariant (omega arith)
    (get_or_default c.args.ids.now c.loop-id.id-index (pos 0) id (omega arith)) c.in_ok-write_id.ensures
