use Rattle.osm_asking.proofs.SavedObjectsLemmas.{passing_stops, summing_begun, summing_done, summing_more}
use Rattle.osm_asking.proofs.SumsLemmas.{room_keys, same_keys_then, summed_taken}
use Rattle.osm_asking.proofs.saved_objects.SavedObjects.sum.Goals as goal

pub objects-init : goal.objects-init
objects-init g c =
    summing_begun (g.S.Store.state c.args.store.now) c.args.save.now c.args.filter.now c.args.self.now.objects c.args.self.now.source c.args.sums.now
    c.args.self.now.lines.out.items c.requires.none c.requires.empty

pub objects-preserved : goal.objects-preserved
objects-preserved g c =
    summing_more (g.S.Store.state c.args.store.now) (g.S.Store.state c.objects.store) c.args.save.now c.args.filter.now c.args.self.now.objects
    c.objects.self.objects
    c.args.self.now.source c.objects.self.source c.args.sums.now c.objects.sums c.objects.self.lines.out.items c.objects.invariant c.next.new.self.objects
    c.next.new.self.source c.next.new.self.lines.out.items (g.S.Store.state c.next.new.store) c.note.new.self c.note.new.lines.out.items
    (rw c.in-Ok-true.field-0-test at c.in-Ok-true.ensures.taken) (rw c.in-Ok-true.field-0-test at c.in-Ok-true.ensures.frame) c.in-Ok.ensures.noted
    c.in-Ok.ensures.keys

pub returns-in-Ok-false-clause-summed : goal.returns-in-Ok-false-clause-summed
returns-in-Ok-false-clause-summed g c =
    summing_done (g.S.Store.state c.args.store.now) (g.S.Store.state c.objects.store) c.args.save.now c.args.filter.now c.args.self.now.objects
    c.objects.self.objects
    c.args.self.now.source c.objects.self.source c.args.sums.now c.objects.sums c.objects.self.lines.out.items c.objects.invariant c.next.new.self.objects
    c.next.new.self.source c.next.new.self.lines.out.items c.take.new.self (rw c.in-Ok-false.field-0-test at c.in-Ok-false.ensures.taken)
    (λ objects s. summed_taken c.objects.sums c.take.new.self c.next.new.self.lines.out.items objects c.take.ensures.all c.take.ensures.blocks
    c.take.ensures.same s)

pub returns-in-Ok-false-clause-keys : goal.returns-in-Ok-false-clause-keys
returns-in-Ok-false-clause-keys g c =
    same_keys_then c.args.sums.now.blocks c.objects.sums.blocks c.take.new.self.blocks c.objects.invariant.keys
    (room_keys c.objects.sums.blocks c.take.new.self.blocks c.take.ensures.same)

pub returns-in-Err-clause-refused : goal.returns-in-Err-clause-refused
returns-in-Err-clause-refused g c =
    passing_stops (g.S.Store.state c.args.store.now) (g.S.Store.state c.objects.store) c.args.save.now c.args.filter.now c.args.self.now.objects
    c.objects.self.objects
    c.args.self.now.source c.objects.self.source c.objects.invariant.values c.objects.invariant.passing c.in-Err.fault c.in-Err.ensures.refused
