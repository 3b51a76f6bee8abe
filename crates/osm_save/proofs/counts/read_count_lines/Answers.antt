use Rattle.std.proofs.Common.{None, sym, map, arith}
use Rattle.std.specs.Ordering.{nat_cmp}
use Rattle.std.proofs.lemmas.Cmp.{nat_cmp_total}
use Rattle.std.proofs.lemmas.List.{map-append}
use Rattle.osm_mirror.specs.Mirror.{Counted}
use Rattle.osm_save.specs.Reading.{count_at, items_at}
use Rattle.osm_reading.specs.Pieces.{cut_at}
use Rattle.osm_save.proofs.CountLemmas.{TakesCount, count_takes}
use Rattle.osm_save.proofs.ItemLemmas.{below_begun, below_more, items_begun, items_cut, items_more, items_wrong, stops}
use Rattle.osm_save.proofs.counts.read_count_lines.Goals as goal

pub loop-init : goal.loop-init
loop-init c = rw c.new-counts.ensures (record {
  items = items_begun (λ e. e.0) (count_at c.args.most) c.args.many c.args.rest.now;
  below = below_begun nat_cmp nat_cmp_total;
})

pub push-requires-clause-rising : goal.push-requires-clause-rising
push-requires-clause-rising c =
    let taken : TakesCount c.args.most c.loop.last c.in-Ok.cut.0.now (c.in-Some.number, c.in-Some.count) =
    count_takes c.args.most c.loop.last c.in-Ok.cut.0.now (c.in-Some.number, c.in-Some.count)
    (sym c.in-Some.ensures) in
    c.loop.invariant.below c.in-Some.number taken.above

pub push-requires-clause-number : goal.push-requires-clause-number
push-requires-clause-number c =
    let taken : TakesCount c.args.most c.loop.last c.in-Ok.cut.0.now (c.in-Some.number, c.in-Some.count) =
    count_takes c.args.most c.loop.last c.in-Ok.cut.0.now (c.in-Some.number, c.in-Some.count)
    (sym c.in-Some.ensures) in
    omega (arith, taken.number.low)

pub push-requires-clause-count : goal.push-requires-clause-count
push-requires-clause-count c =
    let taken : TakesCount c.args.most c.loop.last c.in-Ok.cut.0.now (c.in-Some.number, c.in-Some.count) =
    count_takes c.args.most c.loop.last c.in-Ok.cut.0.now (c.in-Some.number, c.in-Some.count)
    (sym c.in-Some.ensures) in
    omega (arith, taken.some)

pub loop-preserved : goal.loop-preserved
loop-preserved c =
    let taken : TakesCount c.args.most c.loop.last c.in-Ok.cut.0.now (c.in-Some.number, c.in-Some.count) =
    count_takes c.args.most c.loop.last c.in-Ok.cut.0.now (c.in-Some.number, c.in-Some.count)
    (sym c.in-Some.ensures) in
    rw (c.in_ok-push.ensures.pushed) (record {
      items = items_more (λ e. e.0) (count_at c.args.most) c.args.many c.args.rest.now c.loop.counter c.loop.counts
          c.loop.last c.loop.rest.now c.in-Ok.cut.0.now c.in-Ok.cut.1.now (c.in-Some.number, c.in-Some.count)
          c.loop-test.true c.loop.invariant.items c.in-Ok.ensures (sym c.in-Some.ensures);
      below = rw (map-append) (below_more nat_cmp nat_cmp_total (map (λ (e : Counted). e.0) c.loop.counts) c.loop.last
          c.in-Some.number c.loop.invariant.below taken.above);
    })

pub returns-in-Err : goal.returns-in-Err
returns-in-Err c =
    stops c.in-Err.stop (cut_at 10 c.loop.rest.now) (items_at (λ e. e.0) (count_at c.args.most) c.args.many None
    c.args.rest.now) c.in-Err.ensures (items_cut (λ e. e.0) (count_at c.args.most) c.args.many c.args.rest.now
    c.loop.counter c.loop.counts c.loop.last c.loop.rest.now c.loop-test.true c.loop.invariant.items)

pub returns-in_default : goal.returns-in_default
returns-in_default c =
    items_wrong (λ e. e.0) (count_at c.args.most) c.args.many c.args.rest.now c.loop.counter c.loop.counts c.loop.last
    c.loop.rest.now c.in-Ok.cut.0.now c.in-Ok.cut.1.now c.loop-test.true c.loop.invariant.items c.in-Ok.ensures
    (sym c.in_default.ensures)
