use Rattle.std.proofs.Common.{◌<◌, ◌≤◌, arith, length}
use Rattle.osm_world.proofs.ArchiveLemmas.{fed_more}
use Rattle.osm_world.proofs.world.archived_objects.Goals as goal

pub loop-index-preserved : goal.loop-index-preserved
loop-index-preserved c =
    let most : c.args.number ≤ length c.args.archive.now = c.requires in
    let below : c.loop-index.index < c.args.number = c.loop-index-test.true in
    fed_more c.args.filter c.args.archive.now c.loop-index.index c.in_ok-give.field-0.0 c.in_ok-give.field-0.1 c.loop-index.giver
    c.give.new.giver c.index-archive-index.result (omega arith) c.index-archive-index.is c.loop-index.invariant
    c.in_ok-give.ensures
