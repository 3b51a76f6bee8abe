use Rattle.std.proofs.Common.{◌≡◌, ◌++◌, ◌∷◌, [], rules, subst, sym}
use Rattle.osm_blocks.proofs.OftenLemmas.{often_then}
use Rattle.osm_merge.specs.Faults.{IsDeviceFault}
use Rattle.osm_asking.proofs.CountLemmas.{Gathering, gathering_begun, gathering_done, gathering_more, gathering_spent, gathering_stops, gathering_unread}
use Rattle.osm_asking.proofs.SavedObjectsLemmas.{often_lacks}
use Rattle.osm_asking.proofs.counts.gather.Goals as goal

pub counts-init : goal.counts-init
counts-init g c =
    let a = g.S.Store.state c.args.store.now in
    let none : c.new-gathered.result.items ≡ [] = search rules in
    subst (Gathering a a c.args.save.now c.args.counts.now c.args.counts.now c.args.source.now c.args.source.now) (sym none)
    (gathering_begun a c.args.save.now c.args.counts.now c.args.source.now)

pub counts-preserved : goal.counts-preserved
counts-preserved g c =
    let a = g.S.Store.state c.args.store.now in
    let d = g.S.Store.state c.next.new.store in
    let pushed : c.push.new.self.items ≡ c.counts.gathered.items ++ c.in-Ok-Some.count ∷ [] = search rules in
    subst (Gathering a d c.args.save.now c.args.counts.now c.next.new.self c.args.source.now c.next.new.source) (sym pushed)
    (gathering_more a (g.S.Store.state c.counts.store) c.args.save.now c.args.counts.now c.counts.counts c.args.source.now c.counts.source
    c.counts.gathered.items c.counts.invariant d c.next.new.self c.next.new.source c.in-Ok-Some.count
    (rw c.in-Ok-Some.field-0-is at c.in-Ok-Some.ensures.given) (rw c.in-Ok-Some.field-0-is at c.in-Ok-Some.ensures.frame)
    (rw c.in-Ok-Some.field-0-is at c.in-Ok-Some.ensures.calls))

pub returns-in-Ok-None-clause-gathered : goal.returns-in-Ok-None-clause-gathered
returns-in-Ok-None-clause-gathered g c =
    gathering_done (g.S.Store.state c.args.store.now) (g.S.Store.state c.counts.store) c.args.save.now c.args.counts.now c.counts.counts
    c.args.source.now c.counts.source c.counts.gathered.items c.counts.invariant c.next.new.self c.next.new.source
    (rw c.in-Ok-None.field-0-is at c.in-Ok-None.ensures.given)

pub returns-in-Ok-None-clause-frame : goal.returns-in-Ok-None-clause-frame
returns-in-Ok-None-clause-frame g c =
    often_then IsDeviceFault (g.S.Store.state c.args.store.now) (g.S.Store.state c.counts.store) (g.S.Store.state c.next.new.store) tt
    c.in-Ok-None.field-0 c.counts.gathered c.counts.invariant.frame c.in-Ok-None.ensures.frame

pub returns-in-Err-clause-refused : goal.returns-in-Err-clause-refused
returns-in-Err-clause-refused g c =
    gathering_stops (g.S.Store.state c.args.store.now) (g.S.Store.state c.counts.store) c.args.save.now c.args.counts.now c.counts.counts
    c.args.source.now c.counts.source c.counts.gathered.items c.counts.invariant c.in-Err.fault c.in-Err.ensures.given

pub returns-in-Err-push-clause-frame : goal.returns-in-Err-push-clause-frame
returns-in-Err-push-clause-frame g c =
    let a = g.S.Store.state c.args.store.now in
    let d = g.S.Store.state c.next.new.store in
    often_lacks {T = Unit {0}} a d tt
    (often_then IsDeviceFault a (g.S.Store.state c.counts.store) d tt c.in-Ok-Some.field-0 tt c.counts.invariant.frame c.in-Ok-Some.ensures.frame)

pub returns-in-Ok-None-clause-calls : goal.returns-in-Ok-None-clause-calls
returns-in-Ok-None-clause-calls g c =
    gathering_spent (g.S.Store.state c.args.store.now) (g.S.Store.state c.counts.store) c.args.save.now c.args.counts.now c.counts.counts
    c.args.source.now c.counts.source c.counts.gathered.items c.counts.invariant (g.S.Store.state c.next.new.store) c.next.new.source
    c.in-Ok-None.field-0 c.counts.gathered c.in-Ok-None.ensures.calls

pub returns-in-Err-clause-calls : goal.returns-in-Err-clause-calls
returns-in-Err-clause-calls g c =
    gathering_unread (g.S.Store.state c.args.store.now) (g.S.Store.state c.counts.store) c.args.save.now c.args.counts.now c.counts.counts
    c.args.source.now c.counts.source c.counts.gathered.items c.counts.invariant (g.S.Store.state c.next.new.store) c.next.new.source c.in-Err.fault
    c.in-Err.ensures.calls

pub returns-in-Err-push-clause-calls : goal.returns-in-Err-push-clause-calls
returns-in-Err-push-clause-calls g c = λ file has. record { spent = tt; lacks = λ blame. absurd blame }
