use Rattle.std.proofs.Common.{◌+◌, arith}
use Rattle.std.specs.Prelude.{Ok}
use Rattle.osm_blocks.specs.Calls.{Advances, reads_ahead}
use Rattle.osm_blocks.specs.Places.{HasFile, left_of}
use Rattle.osm_blocks.proofs.CallLemmas.{down_none}
use Rattle.osm_blocks.proofs.OftenLemmas.{often_none, often_then}
use Rattle.osm_merge.specs.Faults.{IsDeviceFault}
use Rattle.osm_merge.proofs.CallLemmas.{advances_fails, advances_then}
use Rattle.osm_merge.proofs.CountingLemmas.{counting_begun, counting_done, counting_more, counting_stops}
use Rattle.osm_merge.proofs.FrameLemmas.{has_still, often_as, often_fails}
use Rattle.osm_merge.proofs.counting.count_objects.Goals as goal

pub loop-init : goal.loop-init
loop-init g c = record {
  counting = counting_begun c.args.many c.args.entries.now (HasFile (g.S.Store.state c.args.store.now) c.args.name.now) (left_of c.args.source.now);
  frame = often_none IsDeviceFault (g.S.Store.state c.args.store.now) tt;
  spent = λ file has. down_none (reads_ahead c.args.source.now file) (g.S.Store.state c.args.store.now).left;
}

pub returns-in-Err-clause-refused : goal.returns-in-Err-clause-refused
returns-in-Err-clause-refused g c = λ file has f.
    let a = g.S.Store.state c.args.store.now in
    let b = g.S.Store.state c.loop.store in
    let has_l = has_still a b tt c.args.name.now file c.loop.invariant.frame has in
    counting_stops c.args.many c.loop.counter c.args.entries.now c.loop.rest.now c.loop.count (HasFile a c.args.name.now)
    (left_of c.args.source.now) (left_of c.loop.source) file c.in-Err.fault c.loop-test.true c.loop.invariant.counting has
    (λ h last. c.in-Err.ensures.passed file has_l h last) f

pub returns-in-Err-clause-frame : goal.returns-in-Err-clause-frame
returns-in-Err-clause-frame g c = often_fails {T = Unit {0}} IsDeviceFault (g.S.Store.state c.args.store.now) (g.S.Store.state c.loop.store)
    (g.S.Store.state c.next_key.new.store) tt c.in-Err.fault c.loop.invariant.frame c.in-Err.ensures.frame

pub returns-in-Err-clause-calls : goal.returns-in-Err-clause-calls
returns-in-Err-clause-calls g c = λ file has.
    let a = g.S.Store.state c.args.store.now in
    let b = g.S.Store.state c.loop.store in
    let has_l = has_still a b tt c.args.name.now file c.loop.invariant.frame has in
    let so_far : Advances {T = Unit {0}} IsDeviceFault (reads_ahead c.args.source.now file) (λ x. reads_ahead c.loop.source file) a b (Ok tt) =
    record { spent = c.loop.invariant.spent file has; lacks = tt } in
    advances_fails (reads_ahead c.args.source.now file) (λ x. reads_ahead c.next_key.new.source file) a b
    (g.S.Store.state c.next_key.new.store) tt c.in-Err.fault
    so_far (c.in-Err.ensures.calls file has_l) (omega arith)

pub loop-preserved : goal.loop-preserved
loop-preserved g c =
    let a = g.S.Store.state c.args.store.now in
    let b = g.S.Store.state c.loop.store in
    let d = g.S.Store.state c.next_key.new.store in
    record {
      counting = counting_more c.args.many c.loop.counter c.args.entries.now c.loop.rest.now c.count_object-left.result.0.now c.loop.count
          c.count_object-left.result.1 c.in-Ok.key
          (HasFile a c.args.name.now) (left_of c.args.source.now) (left_of c.loop.source)
          (left_of c.next_key.new.source) c.loop-test.true c.loop.invariant.counting c.count_object-left.ensures
          (λ file has. c.in-Ok.ensures.passed file (has_still a b tt c.args.name.now file c.loop.invariant.frame has));
      frame = often_then {V = Unit {0}} IsDeviceFault a b d tt c.in-Ok.key tt c.loop.invariant.frame c.in-Ok.ensures.frame;
      spent = λ file has.
          let so_far : Advances {T = Unit {0}} IsDeviceFault (reads_ahead c.args.source.now file) (λ x. reads_ahead c.loop.source file) a b (Ok tt) =
          record { spent = c.loop.invariant.spent file has; lacks = tt } in
          (advances_then {V = Unit {0}} (reads_ahead c.args.source.now file) (λ x. reads_ahead c.next_key.new.source file) a b d tt c.in-Ok.key tt
          so_far (c.in-Ok.ensures.calls file (has_still a b tt c.args.name.now file c.loop.invariant.frame has)) (omega arith)).spent;
    }

pub returns-clause-counted : goal.returns-clause-counted
returns-clause-counted g c = λ file has.
    let a = g.S.Store.state c.args.store.now in
    counting_done c.args.many c.loop.counter c.args.entries.now c.loop.rest.now c.loop.count c.count_rest.result (HasFile a c.args.name.now)
    (left_of c.args.source.now) (left_of c.loop.source) file c.loop-test.false c.loop.invariant.counting has c.count_rest.ensures.counted

pub returns-clause-frame : goal.returns-clause-frame
returns-clause-frame g c = often_as IsDeviceFault (g.S.Store.state c.args.store.now) (g.S.Store.state c.loop.store) tt
    (c.loop.count + c.count_rest.result) c.loop.invariant.frame

pub returns-clause-calls : goal.returns-clause-calls
returns-clause-calls g c = λ file has. record { spent = c.loop.invariant.spent file has; lacks = tt }
