use Rattle.std.proofs.Common.{None, Some, ap}
use Rattle.osm_store.specs.Stores.{files_of}
use Rattle.osm_publishing.proofs.OverLemmas.{publish_refuses, publish_keeps}
use Rattle.osm_operations.proofs.RunLemmas.{run_step, run_step_over}
use Rattle.osm_operations.proofs.runs.publish.Goals as goal

pub returns-in-None-clause-step : goal.returns-in-None-clause-step
returns-in-None-clause-step c =
    let s = c.args.setup.now in
    rw c.in-None.is (run_step None s.dir.now s.changes.now c.text_of-now.result.now c.args.batch.now c.args.time
    (files_of c.args.store.now) (files_of c.write_changes.new.store) (files_of c.publish_run.new.store) c.publish_run.result
    (rw c.text_of-now.ensures c.time_write-written.ensures.shows)
    (λ some. rw c.text_of-now.ensures (c.time_write-written.ensures.text some))
    c.in_ok-write_changes.ensures.written
    (record {
      published = c.publish_run.ensures.published;
      stops = c.publish_run.ensures.stops;
      refuses = publish_refuses _ _ _ _ _ _ c.publish_run.result c.publish_run.ensures.over;
      keeps = publish_keeps _ _ _ _ _ _ c.publish_run.result c.publish_run.ensures.over;
      out = c.publish_run.ensures.out;
      others = c.publish_run.ensures.others;
    }))

pub returns-in-Some-clause-step : goal.returns-in-Some-clause-step
returns-in-Some-clause-step c =
    let s = c.args.setup.now in
    rw c.in-Some.is (run_step_over (Some c.in-Some.calls) (Some c.stopping_over-stopping.result.calls)
    s.dir.now s.changes.now c.text_of-now.result.now c.args.batch.now c.args.time
    (files_of c.args.store.now) (files_of c.write_changes.new.store) (files_of c.stopping_over-stopping.result.inner)
    (files_of c.publish_run-answer.new.store.inner) (files_of c.into_inner.result) c.publish_run-answer.result
    (ap Some c.stopping_over-stopping.ensures.calls)
    c.stopping_over-stopping.ensures.inner
    (ap files_of c.into_inner.ensures)
    (rw c.text_of-now.ensures c.time_write-written.ensures.shows)
    (λ some. rw c.text_of-now.ensures (c.time_write-written.ensures.text some))
    c.in_ok-write_changes.ensures.written
    (record {
      published = c.publish_run-answer.ensures.published;
      stops = c.publish_run-answer.ensures.stops;
      refuses = publish_refuses _ _ _ _ _ _ c.publish_run-answer.result c.publish_run-answer.ensures.over;
      keeps = publish_keeps _ _ _ _ _ _ c.publish_run-answer.result c.publish_run-answer.ensures.over;
      out = c.publish_run-answer.ensures.out;
      others = c.publish_run-answer.ensures.others;
    }))
