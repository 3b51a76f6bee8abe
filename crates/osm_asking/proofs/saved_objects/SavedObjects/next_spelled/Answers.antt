use Rattle.std.proofs.Common.{refl, true, false}
use Rattle.osm_merge.specs.Faults.{IsDeviceFault}
use Rattle.osm_merge.proofs.FrameLemmas.{often_as}
use Rattle.osm_asking.specs.Steps.SavedObjects.{ReadsNext}
use Rattle.osm_asking.proofs.SavedObjectsLemmas.{often_lacks, spelled_added}
use Rattle.osm_asking.proofs.saved_objects.SavedObjects.next_spelled.Goals as goal

pub returns-in-Ok-None-clause-taken : goal.returns-in-Ok-None-clause-taken
returns-in-Ok-None-clause-taken g c = (rw c.in-Ok-None.field-0-is at c.in-Ok-None.ensures.given, refl)

pub returns-in-Ok-None-clause-frame : goal.returns-in-Ok-None-clause-frame
returns-in-Ok-None-clause-frame g c =
    often_as IsDeviceFault (g.S.Store.state c.args.store.now) (g.S.Store.state c.next.new.store) c.in-Ok-None.field-0 false c.in-Ok-None.ensures.frame

pub returns-in-Ok-clause-taken : goal.returns-in-Ok-clause-taken
returns-in-Ok-clause-taken g c =
    spelled_added
    (ReadsNext (g.S.Store.state c.args.store.now) c.args.save.now c.args.filter.now c.args.self.now.objects c.next.new.self c.args.self.now.source
    c.next.new.source)
    c.args.self.now.lines.out.items c.add.new.self.out.items c.next.new.spelled.items c.in-Ok-Some.field-0 c.in-Ok-Some._object
    c.in-Ok-Some.field-0-is c.in-Ok-Some.ensures.given c.in-Ok-Some.ensures.spelled (rw c.as_slice.ensures.value at c.in-Ok.ensures)

pub returns-in-Ok-clause-frame : goal.returns-in-Ok-clause-frame
returns-in-Ok-clause-frame g c =
    often_as IsDeviceFault (g.S.Store.state c.args.store.now) (g.S.Store.state c.next.new.store) c.in-Ok-Some.field-0 true c.in-Ok-Some.ensures.frame

pub returns-in-Err-add-clause-frame : goal.returns-in-Err-add-clause-frame
returns-in-Err-add-clause-frame g c =
    often_lacks (g.S.Store.state c.args.store.now) (g.S.Store.state c.next.new.store) c.in-Ok-Some.field-0 c.in-Ok-Some.ensures.frame
