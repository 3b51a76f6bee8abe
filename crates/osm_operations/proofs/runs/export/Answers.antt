use Rattle.std.proofs.Common.{None, Some, ap, refl, subst}
use Rattle.std.specs.Prelude.{IfErr}
use Rattle.osm_store.specs.Files.{Files}
use Rattle.osm_store.specs.Stores.{files_of, stopping_state, memory_state}
use Rattle.osm_operations.specs.Stepping.{LacksExportCalls}
use Rattle.osm_operations.proofs.RunLemmas.{export_step, made_lacks}
use Rattle.osm_operations.proofs.runs.export.Goals as goal

pub returns-in-None-clause-step : goal.returns-in-None-clause-step
returns-in-None-clause-step c =
    export_step c.args.save.now c.args.extract.now (files_of c.args.store.now) (files_of c.export_kept.new.store)
    (files_of c.args.store.now) (files_of c.export_kept.new.store) c.export_kept.result refl refl (record {
      exported = c.export_kept.ensures.exported;
      in_step = c.export_kept.ensures.in_step;
      report = c.export_kept.ensures.report;
      free = c.export_kept.ensures.free;
      stops = c.export_kept.ensures.stops;
      kept = c.export_kept.ensures.frame.files;
    })

pub returns-in-None-clause-lacks : goal.returns-in-None-clause-lacks
returns-in-None-clause-lacks c =
    rw c.in-None.is (made_lacks _ None (memory_state c.args.store.now) (memory_state c.export_kept.new.store) c.export_kept.result refl refl
    (c.export_kept.ensures.calls refl))

pub returns-in-Some-clause-step : goal.returns-in-Some-clause-step
returns-in-Some-clause-step c =
    export_step c.args.save.now c.args.extract.now (files_of c.args.store.now) (files_of c.export_kept-answer.new.store.inner)
    (files_of c.stopping_over-stopping.result.inner) (files_of c.into_inner.result) c.export_kept-answer.result
    c.stopping_over-stopping.ensures.inner (ap files_of c.into_inner.ensures) (record {
      exported = c.export_kept-answer.ensures.exported;
      in_step = c.export_kept-answer.ensures.in_step;
      report = c.export_kept-answer.ensures.report;
      free = c.export_kept-answer.ensures.free;
      stops = c.export_kept-answer.ensures.stops;
      kept = c.export_kept-answer.ensures.frame.files;
    })

pub returns-in-Some-clause-lacks : goal.returns-in-Some-clause-lacks
returns-in-Some-clause-lacks c =
    rw c.in-Some.is (subst (λ (f : Files). IfErr c.export_kept-answer.result (LacksExportCalls c.args.save.now (Some c.in-Some.calls) f))
    c.stopping_over-stopping.ensures.inner
    (made_lacks _ (Some c.in-Some.calls) (stopping_state memory_state c.stopping_over-stopping.result)
    (stopping_state memory_state c.export_kept-answer.new.store) c.export_kept-answer.result refl
    (ap Some c.stopping_over-stopping.ensures.calls) (c.export_kept-answer.ensures.calls refl)))
