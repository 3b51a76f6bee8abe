use Rattle.std.proofs.Common.{[], true}
use Rattle.osm_blocks.proofs.OftenLemmas.{often_then}
use Rattle.osm_merge.specs.Faults.{IsDeviceFault}
use Rattle.osm_merge.proofs.FrameLemmas.{has_still, often_as, often_fails}
use Rattle.osm_asking.proofs.SavedObjectsLemmas.{line_added, nothing_added, stops_still, takes_still}
use Rattle.osm_asking.proofs.saved_objects.SavedObjects.next.Goals as goal

pub returns-in-Ok-true-clause-taken : goal.returns-in-Ok-true-clause-taken
returns-in-Ok-true-clause-taken g c =
    let passed = rw c.in-Ok-true.field-0-test at c.in-Ok-true.ensures.passed in
    (passed.0, passed.1, line_added c.args.self.now.lines.out.items c.pass_line.new.taker.out.items passed.0 (passed.2 []))

pub returns-in-Ok-true-clause-frame : goal.returns-in-Ok-true-clause-frame
returns-in-Ok-true-clause-frame g c =
    often_as IsDeviceFault (g.S.Store.state c.args.store.now) (g.S.Store.state c.pass_line.new.store) c.in-Ok-true.field-0 true c.in-Ok-true.ensures.frame

pub returns-in-Ok-clause-taken : goal.returns-in-Ok-clause-taken
returns-in-Ok-clause-taken g c =
    let a = g.S.Store.state c.args.store.now in
    let b = g.S.Store.state c.pass_line.new.store in
    let passed = rw c.in-Ok-false.field-0-test at c.in-Ok-false.ensures.passed in
    takes_still a b c.args.save.now c.args.filter.now c.args.self.now.objects c.args.self.now.source c.pass_line.new.source passed.0.1
    (λ file has. has_still a b c.in-Ok-false.field-0 c.args.save.now file c.in-Ok-false.ensures.frame has)
    c.next_spelled.new.self.objects c.next_spelled.new.self.source c.args.self.now.lines.out.items c.pass_line.new.taker.out.items
    c.next_spelled.new.self.lines.out.items
    c.in-Ok.is_next (nothing_added c.args.self.now.lines.out.items c.pass_line.new.taker.out.items (passed.1 []))
    (rw passed.0.0 at c.in-Ok.ensures.taken)

pub returns-in-Ok-clause-fewer : goal.returns-in-Ok-clause-fewer
returns-in-Ok-clause-fewer g c =
    let passed = rw c.in-Ok-false.field-0-test at c.in-Ok-false.ensures.passed in
    rw passed.0.0 at c.in-Ok.ensures.fewer

pub returns-in-Ok-clause-frame : goal.returns-in-Ok-clause-frame
returns-in-Ok-clause-frame g c =
    often_then IsDeviceFault (g.S.Store.state c.args.store.now) (g.S.Store.state c.pass_line.new.store) (g.S.Store.state c.next_spelled.new.store)
    c.in-Ok-false.field-0 c.in-Ok.is_next c.in-Ok.is_next c.in-Ok-false.ensures.frame c.in-Ok.ensures.frame

pub returns-in-Err-next_spelled-clause-refused : goal.returns-in-Err-next_spelled-clause-refused
returns-in-Err-next_spelled-clause-refused g c =
    let a = g.S.Store.state c.args.store.now in
    let b = g.S.Store.state c.pass_line.new.store in
    let passed = rw c.in-Ok-false.field-0-test at c.in-Ok-false.ensures.passed in
    stops_still a b c.args.save.now c.args.filter.now c.args.self.now.objects c.args.self.now.source c.pass_line.new.source passed.0.1
    (λ file has. has_still a b c.in-Ok-false.field-0 c.args.save.now file c.in-Ok-false.ensures.frame has)
    c.in-Err-next_spelled.fault (rw passed.0.0 at c.in-Err-next_spelled.ensures.refused)

pub returns-in-Err-next_spelled-clause-frame : goal.returns-in-Err-next_spelled-clause-frame
returns-in-Err-next_spelled-clause-frame g c =
    often_fails IsDeviceFault (g.S.Store.state c.args.store.now) (g.S.Store.state c.pass_line.new.store) (g.S.Store.state c.next_spelled.new.store)
    c.in-Ok-false.field-0 c.in-Err-next_spelled.fault c.in-Ok-false.ensures.frame c.in-Err-next_spelled.ensures.frame
