use Rattle.std.proofs.Common.{◌∙◌, inr, refl, rules, subst, sym}
use Rattle.std.specs.Prelude.{Err, IsTrue, Ok}
use Rattle.osm_store.specs.Frames.{IsKnown}
use Rattle.osm_runs.specs.DataForms.{spells_data}
use Rattle.osm_beginning.specs.Steps.Emptying.{IsPut}
use Rattle.osm_beginning.specs.Steps.Passes.{IsNearBase, IsReplaced}
use Rattle.osm_beginning.proofs.KeepingLemmas.{calls_after, journal_stays, put_first, same_data, stops_after}
use Rattle.osm_beginning.proofs.PassLemmas.{kept_as}
use Rattle.osm_beginning.proofs.kept.empty_first.Goals as goal

pub returns-in-Ok-begin_in-clause-puts : goal.returns-in-Ok-begin_in-clause-puts
returns-in-Ok-begin_in-clause-puts g c =
    let w = c.args.wanted.now in
    let a = g.S.Store.state c.args.store.now in
    let b = g.S.Store.state c.empty_journal.new.store in
    let d = g.S.Store.state c.begin_in.new.store in
    let same = λ (yes : IsKnown a). same_data w c.args.journal.now a.files b.files c.requires.end c.requires.named (c.in-Ok.ensures.written yes) in
    let saves = c.in-Ok-begin_in.ensures.saves in
    record {
      put = λ yes. kept_as (spells_data w.form) w.filter.now (b.files w.base.now) (a.files w.base.now)
          (IsReplaced w.head w.filter.now w.save.now b.files d.files) (IsPut w.head w.filter.now w.save.now a.files d.files) (same yes)
          (λ kept. put_first w.head w.filter.now w.save.now c.args.journal.now a.files b.files d.files kept c.requires.named (c.in-Ok.ensures.written yes))
          (saves.replaced (subst IsTrue (sym c.in-Ok.ensures.frame.makes.known) yes));
      near = λ yes. subst (IsNearBase (spells_data w.form) w.state_time) (same yes)
          (saves.near (subst IsTrue (sym c.in-Ok.ensures.frame.makes.known) yes));
      frame = search rules;
      spends = search rules;
      calls = λ yes. calls_after w.base.now a b d (Ok tt) c.in-Ok.ensures.frame.makes.known (same yes) c.in-Ok.ensures.frame.at_most
          (saves.calls (subst IsTrue (sym c.in-Ok.ensures.frame.makes.known) yes));
    }

pub returns-in-Err-begin_in-clause-puts : goal.returns-in-Err-begin_in-clause-puts
returns-in-Err-begin_in-clause-puts g c = record {
  put = tt;
  near = tt;
  frame = search rules;
  spends = tt;
  calls = λ yes. (let w = c.args.wanted.now in
      let a = g.S.Store.state c.args.store.now in
      let b = g.S.Store.state c.empty_journal.new.store in
      calls_after w.base.now a b (g.S.Store.state c.begin_in.new.store) (Err c.in-Err-begin_in.fault) c.in-Ok.ensures.frame.makes.known
      (same_data w c.args.journal.now a.files b.files c.requires.end c.requires.named (c.in-Ok.ensures.written yes))
      c.in-Ok.ensures.frame.at_most (c.in-Err-begin_in.ensures.saves.calls (subst IsTrue (sym c.in-Ok.ensures.frame.makes.known) yes)));
}

pub returns-in-Err-begin_in-clause-stops : goal.returns-in-Err-begin_in-clause-stops
returns-in-Err-begin_in-clause-stops g c = λ told.
    let a = g.S.Store.state c.args.store.now in
    let b = g.S.Store.state c.empty_journal.new.store in
    stops_after c.args.wanted.now a b told (subst IsTrue (sym c.in-Ok.ensures.frame.makes.known))
    (λ yes. same_data c.args.wanted.now c.args.journal.now a.files b.files c.requires.end c.requires.named (c.in-Ok.ensures.written yes))
    c.in-Err-begin_in.fault c.in-Err-begin_in.ensures.stops

pub returns-in-Ok-begin_in-clause-dropped : goal.returns-in-Ok-begin_in-clause-dropped
returns-in-Ok-begin_in-clause-dropped g c = λ yes.
    let b = g.S.Store.state c.empty_journal.new.store in
    inr (
      journal_stays c.args.wanted.now c.args.journal.now b (g.S.Store.state c.begin_in.new.store) c.requires.named
          (subst IsTrue (sym c.in-Ok.ensures.frame.makes.known) yes) c.in-Ok-begin_in.ensures.saves.replaced ∙ (c.in-Ok.ensures.written yes).there,
      refl,
    )
