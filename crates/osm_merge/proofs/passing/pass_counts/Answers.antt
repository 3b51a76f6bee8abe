use Rattle.osm_blocks.specs.Calls.{reads_ahead}
use Rattle.osm_merge.specs.Faults.{IsDeviceFault}
use Rattle.osm_merge.proofs.FrameLemmas.{often_fails}
use Rattle.osm_merge.proofs.PassLemmas.{passing_begun, passing_done, passing_more, passing_stops, passing_unread}
use Rattle.osm_merge.proofs.passing.pass_counts.Goals as goal

pub loop-init : goal.loop-init
loop-init g c = passing_begun (g.S.Store.state c.args.store.now) c.args.name.now c.args.most c.args.many c.args.source.now

pub loop-preserved : goal.loop-preserved
loop-preserved g c =
    passing_more (g.S.Store.state c.args.store.now) (g.S.Store.state c.loop.store) c.args.name.now c.args.most c.args.many c.loop.counter c.loop.last
    c.args.source.now c.loop.source c.loop.invariant (g.S.Store.state c.next_count.new.store) c.in-Ok.count c.next_count.new.source c.loop-test.true
    c.in-Ok.ensures.read c.in-Ok.ensures.stage c.in-Ok.ensures.frame c.in-Ok.ensures.calls

pub returns-in-Err-clause-refused : goal.returns-in-Err-clause-refused
returns-in-Err-clause-refused g c =
    passing_stops (g.S.Store.state c.args.store.now) (g.S.Store.state c.loop.store) c.args.name.now c.args.most c.args.many c.loop.counter c.loop.last
    c.args.source.now c.loop.source c.loop.invariant c.in-Err.fault c.loop-test.true c.in-Err.ensures.read

pub returns-in-Err-clause-frame : goal.returns-in-Err-clause-frame
returns-in-Err-clause-frame g c = often_fails {T = Unit {0}} IsDeviceFault (g.S.Store.state c.args.store.now) (g.S.Store.state c.loop.store)
    (g.S.Store.state c.next_count.new.store) tt c.in-Err.fault c.loop.invariant.frame c.in-Err.ensures.frame

pub returns-in-Err-clause-calls : goal.returns-in-Err-clause-calls
returns-in-Err-clause-calls g c = λ file has.
    passing_unread (g.S.Store.state c.args.store.now) (g.S.Store.state c.loop.store) c.args.name.now c.args.most c.args.many c.loop.counter c.loop.last
    c.args.source.now c.loop.source c.loop.invariant c.next_count.new.source (λ x. reads_ahead c.next_count.new.source file)
    (g.S.Store.state c.next_count.new.store) c.in-Err.fault file has c.in-Err.ensures.calls

pub returns-clause-passed : goal.returns-clause-passed
returns-clause-passed g c =
    passing_done (g.S.Store.state c.args.store.now) (g.S.Store.state c.loop.store) c.args.name.now c.args.most c.args.many c.loop.counter c.loop.last
    c.args.source.now c.loop.source c.loop.invariant c.loop-test.false
