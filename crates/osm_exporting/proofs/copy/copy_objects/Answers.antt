use Rattle.std.proofs.Common.{refl}
use Rattle.osm_exporting.proofs.CopyLemmas.{copying_begun, copying_ends, copying_fails, copying_more}
use Rattle.osm_exporting.proofs.copy.copy_objects.Goals as goal

pub objects-init : goal.objects-init
objects-init g c =
    copying_begun (g.S.Store.state c.args.store.now) c.args.save.now c.args.filter.now c.args.objects.now (g.W.LineTaker.ahead c.args.writer.now)

pub objects-preserved : goal.objects-preserved
objects-preserved g c =
    copying_more (g.S.Store.state c.args.store.now) (g.S.Store.state c.objects.store) c.args.save.now c.args.filter.now c.args.objects.now
    c.objects.objects (g.W.LineTaker.ahead c.args.writer.now) (g.W.LineTaker.ahead c.objects.writer) c.objects.invariant
    (g.S.Store.state c.copy_next.new.store) c.copy_next.new.objects (g.W.LineTaker.ahead c.copy_next.new.writer)
    (rw c.in-Ok-true.field-0-test at c.in-Ok-true.ensures)

pub objects-smaller : goal.objects-smaller
objects-smaller g c = (rw c.in-Ok-true.field-0-test at c.in-Ok-true.ensures).fewer refl

pub returns-in-Ok-false : goal.returns-in-Ok-false
returns-in-Ok-false g c =
    copying_ends (g.S.Store.state c.args.store.now) (g.S.Store.state c.objects.store) c.args.save.now c.args.filter.now c.args.objects.now
    c.objects.objects (g.W.LineTaker.ahead c.args.writer.now) (g.W.LineTaker.ahead c.objects.writer) c.objects.invariant
    (g.S.Store.state c.copy_next.new.store) c.copy_next.new.objects (g.W.LineTaker.ahead c.copy_next.new.writer)
    (rw c.in-Ok-false.field-0-test at c.in-Ok-false.ensures) (g.S.Store.state c.put_end.new.store) c.put_end.result c.put_end.ensures.put
    c.put_end.ensures.stops c.put_end.ensures.frame c.put_end.ensures.calls

pub returns-in-Err : goal.returns-in-Err
returns-in-Err g c =
    copying_fails (g.S.Store.state c.args.store.now) (g.S.Store.state c.objects.store) c.args.save.now c.args.filter.now c.args.objects.now
    c.objects.objects (g.W.LineTaker.ahead c.args.writer.now) (g.W.LineTaker.ahead c.objects.writer) c.objects.invariant
    (g.S.Store.state c.copy_next.new.store) c.copy_next.new.objects (g.W.LineTaker.ahead c.copy_next.new.writer) c.in-Err.fault c.in-Err.ensures
