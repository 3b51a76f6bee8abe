use Rattle.std.proofs.Common.{None, Some, ap, refl, ◌∙◌}
use Rattle.osm_store.specs.Stores.{files_of, stopping_state, memory_state}
use Rattle.osm_operations.proofs.RunLemmas.{begin_asked, begin_lacks, begin_step, kept_laws}
use Rattle.osm_operations.proofs.runs.begin.Goals as goal

pub returns-in-None-clause-step : goal.returns-in-None-clause-step
returns-in-None-clause-step c =
    let s = c.args.setup.now in
    begin_step c.args.filter.now s.dir.now c.args.number s.extract.now c.as_str-state.result.now s.save.now (files_of c.args.store.now)
    (files_of c.begin_kept.new.store) (files_of c.args.store.now) (files_of c.begin_kept.new.store) c.begin_kept.result
    (c.as_str-state.ensures.value ∙ c.in_ok-name.ensures) refl refl (begin_asked _ _ _ s.extract.now c.as_str-state.result.now
    s.save.now (files_of c.args.store.now) (files_of c.begin_kept.new.store) c.begin_kept.result c.in_ok-options.ensures.filter
    c.in_ok-options.ensures.timely (record {
      begun = c.begin_kept.ensures.begun;
      timely = c.begin_kept.ensures.timely;
      stops = c.begin_kept.ensures.stops;
      leaves = c.begin_kept.ensures.leaves;
      law = c.laws_of_state.ensures.no_fault_beside_state;
      laws = kept_laws c.laws_of_kept.ensures.one_kept c.laws_of_kept.ensures.nothing c.laws_of_kept.ensures.emptied c.laws_of_kept.ensures.no_bytes
          c.laws_of_kept.ensures.one_other;
    }))

pub returns-in-None-clause-lacks : goal.returns-in-None-clause-lacks
returns-in-None-clause-lacks c =
    rw c.in-None.is (begin_lacks c.args.setup.now.extract.now None (memory_state c.args.store.now) (memory_state c.begin_kept.new.store)
    (files_of c.args.store.now) c.begin_kept.result refl refl refl (c.begin_kept.ensures.calls refl) c.begin_kept.ensures.first)

pub returns-clause-step : goal.returns-clause-step
returns-clause-step c =
    let s = c.args.setup.now in
    begin_step c.args.filter.now s.dir.now c.args.number s.extract.now c.as_str-state.result.now s.save.now (files_of c.args.store.now)
    (files_of c.begin_kept-answer.new.store.inner) (files_of c.stopping_over-stopping.result.inner) (files_of c.into_inner.result)
    c.begin_kept-answer.result (c.as_str-state.ensures.value ∙ c.in_ok-name.ensures) c.stopping_over-stopping.ensures.inner
    (ap files_of c.into_inner.ensures) (begin_asked _ _ _ s.extract.now c.as_str-state.result.now
    s.save.now (files_of c.stopping_over-stopping.result.inner) (files_of c.begin_kept-answer.new.store.inner) c.begin_kept-answer.result
    c.in_ok-options.ensures.filter c.in_ok-options.ensures.timely (record {
      begun = c.begin_kept-answer.ensures.begun;
      timely = c.begin_kept-answer.ensures.timely;
      stops = c.begin_kept-answer.ensures.stops;
      leaves = c.begin_kept-answer.ensures.leaves;
      law = c.laws_of_state.ensures.no_fault_beside_state;
      laws = kept_laws c.laws_of_kept.ensures.one_kept c.laws_of_kept.ensures.nothing c.laws_of_kept.ensures.emptied c.laws_of_kept.ensures.no_bytes
          c.laws_of_kept.ensures.one_other;
    }))

pub returns-clause-lacks : goal.returns-clause-lacks
returns-clause-lacks c =
    rw c.in-Some.is (begin_lacks c.args.setup.now.extract.now (Some c.in-Some.calls) (stopping_state memory_state c.stopping_over-stopping.result)
    (stopping_state memory_state c.begin_kept-answer.new.store) (files_of c.args.store.now) c.begin_kept-answer.result refl
    (ap Some c.stopping_over-stopping.ensures.calls) c.stopping_over-stopping.ensures.inner (c.begin_kept-answer.ensures.calls refl)
    c.begin_kept-answer.ensures.first)
