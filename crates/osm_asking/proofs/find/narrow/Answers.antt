use Rattle.std.proofs.Common.{arith, subst}
use Rattle.osm_asking.proofs.CallLemmas.{narrowing_begun, narrowing_done, narrowing_late, narrowing_more, narrowing_near, narrowing_stops}
use Rattle.osm_asking.proofs.SearchLemmas.{narrow_stops}
use Rattle.osm_asking.proofs.find.narrow.Goals as goal

pub loop-init : goal.loop-init
loop-init g c =
    narrowing_begun (g.S.Store.state c.args.store.now) c.args.name.now c.args.start c.args.wanted c.args.end (omega (arith, c.ranges.end.fits))

pub loop-preserved : goal.loop-preserved
loop-preserved g c =
    narrowing_more (g.S.Store.state c.args.store.now) (g.S.Store.state c.loop.store) c.args.name.now c.args.start c.args.wanted c.args.end c.loop.ends
    c.loop.distance c.loop.counter c.loop.invariant (g.S.Store.state c.step.new.store) c.in-Ok.ends _ c.middle_of-middle.result
    (omega (arith, c.saturating_sub.ensures, c.if-saturating_sub-le-BLOCK.false))
    c.middle_of-middle.ensures.above c.middle_of-middle.ensures.grown c.middle_of-middle.ensures.halved
    (λ fits. omega (arith, fits, c.saturating_mul-distance.ensures)) c.in-Ok.ensures.frame c.in-Ok.ensures.few c.in-Ok.ensures.step c.in-Ok.ensures.low

pub returns-in-Err-clause-stops : goal.returns-in-Err-clause-stops
returns-in-Err-clause-stops g c =
    narrow_stops (g.S.Store.state c.args.store.now) (g.S.Store.state c.loop.store) c.args.name.now c.args.start c.args.wanted c.loop.ends.low
    c.middle_of-middle.result c.in-Err.fault c.loop.invariant.narrows c.middle_of-middle.ensures.above c.in-Err.ensures.stops

pub returns-in-Err-clause-calls : goal.returns-in-Err-clause-calls
returns-in-Err-clause-calls g c = λ file v plain none.
    narrowing_stops (g.S.Store.state c.args.store.now) (g.S.Store.state c.loop.store) c.args.name.now c.args.start c.args.wanted c.args.end c.loop.ends
    c.loop.distance c.loop.counter c.loop.invariant (g.S.Store.state c.step.new.store) c.in-Err.fault file v
    (omega (arith, c.saturating_sub.ensures, c.if-saturating_sub-le-BLOCK.false)) c.in-Err.ensures.few plain none

pub returns-clause-calls : goal.returns-clause-calls
returns-clause-calls g c =
    narrowing_done (g.S.Store.state c.args.store.now) (g.S.Store.state c.loop.store) c.args.name.now c.args.start c.args.wanted c.args.end c.loop.ends
    c.loop.distance c.loop.counter c.loop.invariant

pub returns-clause-near : goal.returns-clause-near
returns-clause-near g c = λ file v plain none.
    absurd (narrowing_late (g.S.Store.state c.args.store.now) (g.S.Store.state c.loop.store) c.args.name.now c.args.start c.args.wanted c.args.end c.loop.ends
    c.loop.distance c.loop.counter c.loop.invariant file v plain none c.loop-test.false)

pub returns-clause-ended : goal.returns-clause-ended
returns-clause-ended g c = λ file v plain none. (c.loop.invariant.quick file v plain none).none

pub returns-then-saturating_sub-le-BLOCK-clause-calls : goal.returns-then-saturating_sub-le-BLOCK-clause-calls
returns-then-saturating_sub-le-BLOCK-clause-calls g c =
    narrowing_done (g.S.Store.state c.args.store.now) (g.S.Store.state c.loop.store) c.args.name.now c.args.start c.args.wanted c.args.end c.loop.ends
    c.loop.distance c.loop.counter c.loop.invariant

pub returns-then-saturating_sub-le-BLOCK-clause-near : goal.returns-then-saturating_sub-le-BLOCK-clause-near
returns-then-saturating_sub-le-BLOCK-clause-near g c = λ file v plain none.
    narrowing_near (g.S.Store.state c.args.store.now) (g.S.Store.state c.loop.store) c.args.name.now c.args.start c.args.wanted c.args.end c.loop.ends
    c.loop.distance c.loop.counter c.loop.invariant file v plain none (omega (arith, c.saturating_sub.ensures, c.if-saturating_sub-le-BLOCK.true))

pub returns-then-saturating_sub-le-BLOCK-clause-ended : goal.returns-then-saturating_sub-le-BLOCK-clause-ended
returns-then-saturating_sub-le-BLOCK-clause-ended g c = λ file v plain none. (c.loop.invariant.quick file v plain none).none
