use Rattle.osm_save.proofs.LeftLemmas.{write_more}
use Rattle.osm_save.proofs.objects.write_left.Goals as goal

pub loop-key-preserved : goal.loop-key-preserved
loop-key-preserved c = write_more c.args.entries.now c.loop-key._key-index c.loop-key-item.result c.write_numbered.new.out.items
    c.loop-key.out.items c.write_one_left.new.out.items c.loop-key-test.true c.loop-key-item.is c.loop-key.invariant
    c.in_ok-write_one_left.ensures
