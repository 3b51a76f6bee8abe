use Rattle.std.proofs.Common.{None, Some}
use Rattle.osm_merge.specs.Faults.{IsDeviceFault}
use Rattle.osm_merge.proofs.FrameLemmas.{often_as}
use Rattle.osm_merged.proofs.LoopLemmas.{turned_by, turned_gives, turned_more, turning_filled, turning_unread}
use Rattle.osm_merged.proofs.objects.MergedObjects.next.Goals as goal

pub returns-in-Err-fill-clause-calls : goal.returns-in-Err-fill-clause-calls
returns-in-Err-fill-clause-calls g c = λ file has. record {
  spent = tt;
  lacks = (turning_unread (g.S.Store.state c.args.store.now) (g.S.Store.state c.entries.store) c.args.name.now c.args.filter.now c.args.self.now
      c.entries.self c.args.source.now c.entries.source c.entries.invariant {U = Unit {0}} c.fill.new.source (λ _. 0) (g.S.Store.state c.fill.new.store)
      c.in-Err-fill.fault file has c.in-Err-fill.ensures.calls).lacks;
}

pub returns-in-Ok-Object-clause-frame : goal.returns-in-Ok-Object-clause-frame
returns-in-Ok-Object-clause-frame g c =
    often_as IsDeviceFault (g.S.Store.state c.args.store.now) (g.S.Store.state c.fill.new.store) tt (Some c.in-Ok-Object.object)
    (turning_filled (g.S.Store.state c.args.store.now) (g.S.Store.state c.entries.store) c.args.name.now c.args.filter.now c.args.self.now
    c.entries.self c.args.source.now c.entries.source c.entries.invariant (g.S.Store.state c.fill.new.store) c.fill.new.self c.fill.new.source
    c.in-Ok-fill.ensures.fills c.in-Ok-fill.ensures.same c.in-Ok-fill.ensures.shorter
    c.in-Ok-fill.ensures.stage c.in-Ok-fill.ensures.frame c.in-Ok-fill.ensures.calls).frame

pub returns-in-Ok-Object-clause-given : goal.returns-in-Ok-Object-clause-given
returns-in-Ok-Object-clause-given g c =
    turned_gives (g.S.Store.state c.args.store.now) (g.S.Store.state c.fill.new.store) c.args.name.now c.args.filter.now c.args.self.now c.fill.new.self
    c.args.source.now c.fill.new.source
    (turning_filled (g.S.Store.state c.args.store.now) (g.S.Store.state c.entries.store) c.args.name.now c.args.filter.now c.args.self.now
    c.entries.self c.args.source.now c.entries.source c.entries.invariant (g.S.Store.state c.fill.new.store) c.fill.new.self c.fill.new.source
    c.in-Ok-fill.ensures.fills c.in-Ok-fill.ensures.same c.in-Ok-fill.ensures.shorter
    c.in-Ok-fill.ensures.stage c.in-Ok-fill.ensures.frame c.in-Ok-fill.ensures.calls)
    c.turn.new.self (Some c.in-Ok-Object.object) ((rw c.in-Ok-Object.field-0-is at c.in-Ok-Object.ensures.turned) c.args.filter.now)

pub returns-in-Ok-Object-clause-exact : goal.returns-in-Ok-Object-clause-exact
returns-in-Ok-Object-clause-exact g c =
    turned_by (g.S.Store.state c.args.store.now) (g.S.Store.state c.fill.new.store) c.args.name.now c.args.filter.now c.args.self.now c.fill.new.self
    c.args.source.now c.fill.new.source
    (turning_filled (g.S.Store.state c.args.store.now) (g.S.Store.state c.entries.store) c.args.name.now c.args.filter.now c.args.self.now
    c.entries.self c.args.source.now c.entries.source c.entries.invariant (g.S.Store.state c.fill.new.store) c.fill.new.self c.fill.new.source
    c.in-Ok-fill.ensures.fills c.in-Ok-fill.ensures.same c.in-Ok-fill.ensures.shorter
    c.in-Ok-fill.ensures.stage c.in-Ok-fill.ensures.frame c.in-Ok-fill.ensures.calls)
    c.turn.new.self (Some c.in-Ok-Object.object) ((rw c.in-Ok-Object.field-0-is at c.in-Ok-Object.ensures.turned) c.args.filter.now)

pub returns-in-Ok-Object-clause-calls : goal.returns-in-Ok-Object-clause-calls
returns-in-Ok-Object-clause-calls g c = λ file has. record {
  spent =
      (turning_filled (g.S.Store.state c.args.store.now) (g.S.Store.state c.entries.store) c.args.name.now c.args.filter.now c.args.self.now
      c.entries.self c.args.source.now c.entries.source c.entries.invariant (g.S.Store.state c.fill.new.store) c.fill.new.self c.fill.new.source
      c.in-Ok-fill.ensures.fills c.in-Ok-fill.ensures.same c.in-Ok-fill.ensures.shorter
      c.in-Ok-fill.ensures.stage c.in-Ok-fill.ensures.frame c.in-Ok-fill.ensures.calls).spent file has;
  lacks = tt;
}

pub returns-in-Ok-End-clause-given : goal.returns-in-Ok-End-clause-given
returns-in-Ok-End-clause-given g c =
    turned_gives (g.S.Store.state c.args.store.now) (g.S.Store.state c.fill.new.store) c.args.name.now c.args.filter.now c.args.self.now c.fill.new.self
    c.args.source.now c.fill.new.source
    (turning_filled (g.S.Store.state c.args.store.now) (g.S.Store.state c.entries.store) c.args.name.now c.args.filter.now c.args.self.now
    c.entries.self c.args.source.now c.entries.source c.entries.invariant (g.S.Store.state c.fill.new.store) c.fill.new.self c.fill.new.source
    c.in-Ok-fill.ensures.fills c.in-Ok-fill.ensures.same c.in-Ok-fill.ensures.shorter
    c.in-Ok-fill.ensures.stage c.in-Ok-fill.ensures.frame c.in-Ok-fill.ensures.calls)
    c.turn.new.self None ((rw c.in-Ok-End.field-0-is at c.in-Ok-End.ensures.turned) c.args.filter.now)

pub returns-in-Ok-End-clause-exact : goal.returns-in-Ok-End-clause-exact
returns-in-Ok-End-clause-exact g c =
    turned_by (g.S.Store.state c.args.store.now) (g.S.Store.state c.fill.new.store) c.args.name.now c.args.filter.now c.args.self.now c.fill.new.self
    c.args.source.now c.fill.new.source
    (turning_filled (g.S.Store.state c.args.store.now) (g.S.Store.state c.entries.store) c.args.name.now c.args.filter.now c.args.self.now
    c.entries.self c.args.source.now c.entries.source c.entries.invariant (g.S.Store.state c.fill.new.store) c.fill.new.self c.fill.new.source
    c.in-Ok-fill.ensures.fills c.in-Ok-fill.ensures.same c.in-Ok-fill.ensures.shorter
    c.in-Ok-fill.ensures.stage c.in-Ok-fill.ensures.frame c.in-Ok-fill.ensures.calls)
    c.turn.new.self None ((rw c.in-Ok-End.field-0-is at c.in-Ok-End.ensures.turned) c.args.filter.now)

pub returns-in-Ok-End-clause-calls : goal.returns-in-Ok-End-clause-calls
returns-in-Ok-End-clause-calls g c = λ file has. record {
  spent =
      (turning_filled (g.S.Store.state c.args.store.now) (g.S.Store.state c.entries.store) c.args.name.now c.args.filter.now c.args.self.now
      c.entries.self c.args.source.now c.entries.source c.entries.invariant (g.S.Store.state c.fill.new.store) c.fill.new.self c.fill.new.source
      c.in-Ok-fill.ensures.fills c.in-Ok-fill.ensures.same c.in-Ok-fill.ensures.shorter
      c.in-Ok-fill.ensures.stage c.in-Ok-fill.ensures.frame c.in-Ok-fill.ensures.calls).spent file has;
  lacks = tt;
}

pub entries-preserved : goal.entries-preserved
entries-preserved g c =
    turned_more (g.S.Store.state c.args.store.now) (g.S.Store.state c.fill.new.store) c.args.name.now c.args.filter.now c.args.self.now c.fill.new.self
    c.args.source.now c.fill.new.source
    (turning_filled (g.S.Store.state c.args.store.now) (g.S.Store.state c.entries.store) c.args.name.now c.args.filter.now c.args.self.now
    c.entries.self c.args.source.now c.entries.source c.entries.invariant (g.S.Store.state c.fill.new.store) c.fill.new.self c.fill.new.source
    c.in-Ok-fill.ensures.fills c.in-Ok-fill.ensures.same c.in-Ok-fill.ensures.shorter
    c.in-Ok-fill.ensures.stage c.in-Ok-fill.ensures.frame c.in-Ok-fill.ensures.calls)
    c.turn.new.self (rw c.in-Ok-Gone.field-0-is at c.in-Ok-Gone.ensures.turned) (rw c.in-Ok-Gone.field-0-is at c.in-Ok-Gone.ensures.fewer)
