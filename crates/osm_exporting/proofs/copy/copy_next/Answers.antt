use Rattle.std.proofs.Common.{refl}
use Rattle.osm_exporting.proofs.CopyLemmas.{line_next, line_unput, still_next, unread}
use Rattle.osm_exporting.proofs.copy.copy_next.Goals as goal

pub returns-in-Ok-false : goal.returns-in-Ok-false
returns-in-Ok-false g c =
    let passed = rw c.in-Ok-false.field-0-test at c.in-Ok-false.ensures.passed in
    still_next (g.S.Store.state c.args.store.now) (g.S.Store.state c.pass_line.new.store) (g.S.Store.state c.copy_object.new.store) c.args.save.now
    c.args.filter.now c.args.objects.now c.pass_line.new.objects c.copy_object.new.objects (g.W.LineTaker.ahead c.args.writer.now)
    (g.W.LineTaker.ahead c.pass_line.new.taker) (g.W.LineTaker.ahead c.copy_object.new.writer) passed
    (rw c.in-Ok-false.field-0-test at c.in-Ok-false.ensures.reads)
    c.copy_object.result c.copy_object.ensures

pub returns-in-Err : goal.returns-in-Err
returns-in-Err g c =
    unread (g.S.Store.state c.args.store.now) (g.S.Store.state c.pass_line.new.store) c.args.save.now c.args.filter.now c.args.objects.now
    c.pass_line.new.objects (g.W.LineTaker.ahead c.args.writer.now) (g.W.LineTaker.ahead c.pass_line.new.taker) c.in-Err.fault c.in-Err.ensures.stops
    c.in-Err.ensures.reads

pub returns-in-Ok : goal.returns-in-Ok
returns-in-Ok g c =
    let passed = rw c.in-Ok-true.field-0-test at c.in-Ok-true.ensures.passed in
    line_next (g.S.Store.state c.args.store.now) (g.S.Store.state c.pass_line.new.store) c.args.save.now c.args.filter.now c.args.objects.now
    c.pass_line.new.objects (g.W.LineTaker.ahead c.args.writer.now) (g.W.LineTaker.ahead c.pass_line.new.taker) passed
    (rw c.in-Ok-true.field-0-test at c.in-Ok-true.ensures.fewer refl) (rw c.in-Ok-true.field-0-test at c.in-Ok-true.ensures.shorter refl)
    (rw c.in-Ok-true.field-0-test at c.in-Ok-true.ensures.reads) (g.S.Store.state c.put_block.new.store) (g.W.LineTaker.ahead c.put_block.new.writer)
    c.in-Ok.ensures.put c.in-Ok.ensures.frame c.in-Ok.ensures.calls

pub returns-in-Err-put_block : goal.returns-in-Err-put_block
returns-in-Err-put_block g c =
    let passed = rw c.in-Ok-true.field-0-test at c.in-Ok-true.ensures.passed in
    line_unput (g.S.Store.state c.args.store.now) (g.S.Store.state c.pass_line.new.store) c.args.save.now c.args.filter.now c.args.objects.now
    c.pass_line.new.objects (g.W.LineTaker.ahead c.args.writer.now) (g.W.LineTaker.ahead c.pass_line.new.taker) passed
    (rw c.in-Ok-true.field-0-test at c.in-Ok-true.ensures.fewer refl) (rw c.in-Ok-true.field-0-test at c.in-Ok-true.ensures.shorter refl)
    (rw c.in-Ok-true.field-0-test at c.in-Ok-true.ensures.reads) (g.S.Store.state c.put_block.new.store) (g.W.LineTaker.ahead c.put_block.new.writer)
    c.in-Err-put_block.fault c.in-Err-put_block.ensures.stops c.in-Err-put_block.ensures.frame c.in-Err-put_block.ensures.calls
