use Rattle.osm_exporting.proofs.CopyLemmas.{none_next, one_next, one_unput, unread}
use Rattle.osm_exporting.proofs.copy.copy_object.Goals as goal

pub returns-in-Ok-None : goal.returns-in-Ok-None
returns-in-Ok-None g c =
    none_next (g.S.Store.state c.args.store.now) (g.S.Store.state c.next_object.new.store) c.args.save.now c.args.filter.now c.args.objects.now
    c.next_object.new.objects (g.W.LineTaker.ahead c.args.writer.now) c.in-Ok-None.field-0 c.in-Ok-None.ensures.given c.in-Ok-None.ensures.fewer
    c.in-Ok-None.ensures.shorter c.in-Ok-None.ensures.reads c.in-Ok-None.field-0-is

pub returns-in-Err : goal.returns-in-Err
returns-in-Err g c =
    unread (g.S.Store.state c.args.store.now) (g.S.Store.state c.next_object.new.store) c.args.save.now c.args.filter.now c.args.objects.now
    c.next_object.new.objects (g.W.LineTaker.ahead c.args.writer.now) (g.W.LineTaker.ahead c.args.writer.now) c.in-Err.fault c.in-Err.ensures.stops
    c.in-Err.ensures.reads

pub returns-in-Ok : goal.returns-in-Ok
returns-in-Ok g c =
    one_next (g.S.Store.state c.args.store.now) (g.S.Store.state c.next_object.new.store) c.args.save.now c.args.filter.now c.args.objects.now
    c.next_object.new.objects (g.W.LineTaker.ahead c.args.writer.now) c.in-Ok-Some.field-0 c.in-Ok-Some.ensures.given c.in-Ok-Some.ensures.fewer
    c.in-Ok-Some.ensures.shorter c.in-Ok-Some.ensures.reads c.in-Ok-Some.object
    c.in-Ok-Some.field-0-is (g.S.Store.state c.put_object.new.store) (g.W.LineTaker.ahead c.put_object.new.writer) c.in-Ok.ensures.put
    c.in-Ok.ensures.frame c.in-Ok.ensures.calls

pub returns : goal.returns
returns g c =
    one_unput (g.S.Store.state c.args.store.now) (g.S.Store.state c.next_object.new.store) c.args.save.now c.args.filter.now c.args.objects.now
    c.next_object.new.objects (g.W.LineTaker.ahead c.args.writer.now) c.in-Ok-Some.field-0 c.in-Ok-Some.ensures.given c.in-Ok-Some.ensures.fewer
    c.in-Ok-Some.ensures.shorter c.in-Ok-Some.ensures.reads c.in-Ok-Some.object
    c.in-Ok-Some.field-0-is (g.S.Store.state c.put_object.new.store) (g.W.LineTaker.ahead c.put_object.new.writer) c.in-Err-put_object.fault
    c.in-Err-put_object.ensures.stops c.in-Err-put_object.ensures.frame c.in-Err-put_object.ensures.calls
