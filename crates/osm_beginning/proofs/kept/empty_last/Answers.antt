use Rattle.std.proofs.Common.{inr, refl, subst, sym}
use Rattle.osm_store.specs.Files.{Files}
use Rattle.osm_runs.specs.DataForms.{spells_data}
use Rattle.osm_beginning.specs.Steps.Emptying.{IsPutAlone}
use Rattle.osm_beginning.proofs.KeepingLemmas.{last_same}
use Rattle.osm_beginning.proofs.kept.empty_last.Goals as goal

pub returns-in-Err-clause-leaves : goal.returns-in-Err-clause-leaves
returns-in-Err-clause-leaves g c =
    last_same c.args.is_own c.args.last c.args.wanted.now (g.S.Store.state c.args.store.now) (g.S.Store.state c.begin_in.new.store) c.in-Err.fault
    c.in-Err.ensures.stops c.in-Err.ensures.saves.frame.files

pub returns-in-Err-empty_journal-clause-leaves : goal.returns-in-Err-empty_journal-clause-leaves
returns-in-Err-empty_journal-clause-leaves g c =
    let w = c.args.wanted.now in
    let a = g.S.Store.state c.args.store.now in
    rw c.if-is_own.true (λ yes.
    inr (subst (λ (f : Files). IsPutAlone (spells_data w.form) w.head w.filter.now (a.files w.base.now) w.save.now a.files f)
    (sym c.in-Err-empty_journal.ensures.frame.files) (c.in-Ok.ensures.saves.replaced yes)))

pub returns-in-Err-2-clause-leaves : goal.returns-in-Err-2-clause-leaves
returns-in-Err-2-clause-leaves g c =
    let w = c.args.wanted.now in
    let a = g.S.Store.state c.args.store.now in
    rw c.if-is_own.false (λ yes. (
      refl,
      subst (λ (f : Files). IsPutAlone (spells_data w.form) w.head w.filter.now (a.files w.base.now) w.save.now a.files f)
          (sym c.in-Err-2.ensures.frame.files) (c.in-Ok.ensures.saves.replaced yes),
    ))
