use Rattle.std.proofs.Common.{◌≡◌, None, arith}
use Rattle.osm_blocks.proofs.OftenLemmas.{often_then}
use Rattle.osm_store.specs.Frames.{IsKnown}
use Rattle.osm_store.proofs.FileLemmas.{spends_both}
use Rattle.osm_runs.specs.Runs.{IsDeviceFault}
use Rattle.osm_merge.proofs.FrameLemmas.{often_fails}
use Rattle.osm_exporting.specs.Steps.Copying.{all_in}
use Rattle.osm_exporting.proofs.LaidLemmas.{begin_calls, has_begun, output_stops, staged_of, write_calls, write_done}
use Rattle.osm_exporting.proofs.ObjectLemmas.{none_saved, part_stops}
use Rattle.osm_exporting.proofs.laid.stage_output.Goals as goal

pub returns-in-Err-begin-clause-stops : goal.returns-in-Err-begin-clause-stops
returns-in-Err-begin-clause-stops g c =
    let a = g.S.Store.state c.args.store.now in
    output_stops (IsKnown a) (a.files c.args.save.now) c.in-Err-begin.fault c.in-Err-begin.ensures.stops

pub returns-in-Err-begin-clause-frame : goal.returns-in-Err-begin-clause-frame
returns-in-Err-begin-clause-frame g c =
    often_fails IsDeviceFault (g.S.Store.state c.args.store.now) (g.S.Store.state c.open_objects.new.store) (g.S.Store.state c.begin.new.store) c.in-Ok.opened
    c.in-Err-begin.fault c.in-Ok.ensures.frame c.in-Err-begin.ensures.frame

pub returns-in-Err-begin-clause-calls : goal.returns-in-Err-begin-clause-calls
returns-in-Err-begin-clause-calls g c = λ known.
    begin_calls (g.S.Store.state c.args.store.now) (g.S.Store.state c.open_objects.new.store) (g.S.Store.state c.begin.new.store) c.args.save.now
    c.args.laid.now c.in-Ok.opened known (c.in-Ok.ensures.opened known) c.in-Ok.ensures.frame c.in-Ok.ensures.shorter c.in-Ok.ensures.ahead
    c.in-Err-begin.fault c.in-Err-begin.ensures.calls

pub returns-in-Ok-write_objects-clause-staged : goal.returns-in-Ok-write_objects-clause-staged
returns-in-Ok-write_objects-clause-staged g c = λ known.
    staged_of (g.S.Store.state c.args.store.now) (g.S.Store.state c.open_objects.new.store) (g.S.Store.state c.begin.new.store) c.args.save.now
    c.args.laid.now c.in-Ok.opened known (c.in-Ok.ensures.opened known) c.in-Ok.ensures.frame c.in-Ok-begin.ensures.frame
    c.laws_of_merged_saves.ensures.made (g.S.Store.state c.write_objects.new.store) c.args.output.now c.args.form c.in-Ok-begin.ensures.begun
    c.in-Ok-write_objects.ensures.written

pub returns-in-Ok-write_objects-clause-frame : goal.returns-in-Ok-write_objects-clause-frame
returns-in-Ok-write_objects-clause-frame g c =
    let a = g.S.Store.state c.args.store.now in
    let d = g.S.Store.state c.begin.new.store in
    often_then {V = Unit {0}} IsDeviceFault a d (g.S.Store.state c.write_objects.new.store) tt tt tt
    (often_then {V = Unit {0}} IsDeviceFault a (g.S.Store.state c.open_objects.new.store) d c.in-Ok.opened tt tt c.in-Ok.ensures.frame
    c.in-Ok-begin.ensures.frame)
    c.in-Ok-write_objects.ensures.frame

pub returns-in-Ok-write_objects-clause-spends : goal.returns-in-Ok-write_objects-clause-spends
returns-in-Ok-write_objects-clause-spends g c =
    let a = g.S.Store.state c.args.store.now in
    let d = g.S.Store.state c.begin.new.store in
    spends_both 2 0 2 a.left d.left (g.S.Store.state c.write_objects.new.store).left (omega arith)
    (spends_both 1 1 2 a.left (g.S.Store.state c.open_objects.new.store).left d.left (omega arith) c.in-Ok.ensures.spends c.in-Ok-begin.ensures.spends)
    c.in-Ok-write_objects.ensures.frame.left

pub returns-in-Ok-write_objects-clause-calls : goal.returns-in-Ok-write_objects-clause-calls
returns-in-Ok-write_objects-clause-calls g c = λ known.
    write_done (g.S.Store.state c.args.store.now) (g.S.Store.state c.open_objects.new.store) (g.S.Store.state c.begin.new.store) c.args.save.now
    c.args.laid.now c.in-Ok.opened known (c.in-Ok.ensures.opened known) c.in-Ok.ensures.frame c.in-Ok.ensures.shorter c.in-Ok.ensures.ahead
    c.in-Ok-begin.ensures.frame c.in-Ok-begin.ensures.calls (g.S.Store.state c.write_objects.new.store) c.in-Ok-write_objects.ensures.calls

pub returns-clause-stops : goal.returns-clause-stops
returns-clause-stops g c =
    let a = g.S.Store.state c.args.store.now in
    let d = g.S.Store.state c.begin.new.store in
    let o = c.in-Ok.opened in
    let told = a.files c.args.save.now in
    part_stops d c.args.save.now (IsKnown a) told (λ file. all_in o.1 o.0 file ≡ None) c.in-Err-write_objects.fault
    (λ known.
    let at = c.in-Ok.ensures.opened known in
    record {
      file = at.file;
      there = at.there;
      has = has_begun a (g.S.Store.state c.open_objects.new.store) d c.args.save.now c.args.laid.now o known at c.in-Ok.ensures.frame
          c.in-Ok-begin.ensures.frame;
      nothing = none_saved c.laws_of_merged_saves.ensures.found told c.args.laid.now.lists.objects.items o.1 o.0 at;
    })
    c.in-Err-write_objects.ensures.stops

pub returns-clause-frame : goal.returns-clause-frame
returns-clause-frame g c =
    let a = g.S.Store.state c.args.store.now in
    let d = g.S.Store.state c.begin.new.store in
    often_fails IsDeviceFault a d (g.S.Store.state c.write_objects.new.store) tt c.in-Err-write_objects.fault
    (often_then {V = Unit {0}} IsDeviceFault a (g.S.Store.state c.open_objects.new.store) d c.in-Ok.opened tt tt c.in-Ok.ensures.frame
    c.in-Ok-begin.ensures.frame)
    c.in-Err-write_objects.ensures.frame

pub returns-clause-calls : goal.returns-clause-calls
returns-clause-calls g c = λ known.
    write_calls (g.S.Store.state c.args.store.now) (g.S.Store.state c.open_objects.new.store) (g.S.Store.state c.begin.new.store) c.args.save.now
    c.args.laid.now c.in-Ok.opened known (c.in-Ok.ensures.opened known) c.in-Ok.ensures.frame c.in-Ok.ensures.shorter c.in-Ok.ensures.ahead
    c.in-Ok-begin.ensures.frame c.in-Ok-begin.ensures.calls (g.S.Store.state c.write_objects.new.store) c.in-Err-write_objects.fault
    c.in-Err-write_objects.ensures.calls
