use Rattle.std.proofs.Common.{◌≡◌, ◌+◌, arith, length, take}
use Rattle.osm_save.specs.Left.{left_in}
use Rattle.osm_save.proofs.LeftLemmas.{count_more, left_fits}
use Rattle.osm_save.proofs.objects.count_left.Goals as goal

more : (c : goal.After-count_one_left-count)
    → c.loop-key.count + c.count_one_left-count.result ≡ length (left_in (take (c.loop-key._key-index + 1) c.args.entries.now))
more c = count_more c.args.entries.now c.loop-key._key-index c.loop-key.count c.count_one_left-count.result c.loop-key-item.result
    c.loop-key-test.true c.loop-key-item.is c.loop-key.invariant c.count_one_left-count.ensures

pub overflow_add-count : goal.overflow_add-count
overflow_add-count c =
    let few = left_fits c.args.entries.now (c.loop-key._key-index + 1) in
    let is = more c in
    omega (arith, few, is)

pub loop-key-preserved : goal.loop-key-preserved
loop-key-preserved c = more c
