use Rattle.std.proofs.Common.{◌≡◌, ◌<◌, ◌/◌, arith}
use Rattle.osm_asking.proofs.JsonLemmas.{decimals_done, decimals_scaled, digit_scaled, scaled_some}
use Rattle.osm_asking.proofs.json.write_decimals.Goals as goal

pub nonzero_div-left : goal.nonzero_div-left
nonzero_div-left c = scaled_some c.loop-left.places c.scale_of-scale.result c.scale_of-scale.ensures

pub nonzero_rem-left : goal.nonzero_rem-left
nonzero_rem-left c = scaled_some c.loop-left.places c.scale_of-scale.result c.scale_of-scale.ensures

pub overflow_cast-left : goal.overflow_cast-left
overflow_cast-left c =
    let digit : c.loop-left.left / c.scale_of-scale.result < 10 =
    digit_scaled c.loop-left.left c.loop-left.places c.scale_of-scale.result c.loop-left.invariant.below c.loop-left-test.true c.scale_of-scale.ensures in
    omega (arith, digit)

pub overflow_add-left : goal.overflow_add-left
overflow_add-left c =
    let digit : c.loop-left.left / c.scale_of-scale.result < 10 =
    digit_scaled c.loop-left.left c.loop-left.places c.scale_of-scale.result c.loop-left.invariant.below c.loop-left-test.true c.scale_of-scale.ensures in
    omega (arith, digit)

pub loop-left-preserved : goal.loop-left-preserved
loop-left-preserved c =
    decimals_scaled c.args.out.now.items c.loop-left.out.items c.push.new.self.items c.args.part c.loop-left.left c.loop-left.places
    c.scale_of-scale.result c.loop-left.invariant c.loop-left-test.true c.scale_of-scale.ensures c.in_ok-push.ensures.items

pub returns : goal.returns
returns c =
    let none : c.loop-left.left ≡ 0 = omega arith in
    decimals_done c.args.out.now.items c.loop-left.out.items c.args.part c.loop-left.left c.loop-left.places c.loop-left.invariant none
