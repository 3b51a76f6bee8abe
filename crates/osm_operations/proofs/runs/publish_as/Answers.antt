use Rattle.std.proofs.Common.{None, Some, ap, ◌∙◌}
use Rattle.osm_store.specs.Stores.{files_of}
use Rattle.osm_publishing.proofs.OverLemmas.{number_adds, number_refuses, number_keeps}
use Rattle.osm_operations.proofs.RunLemmas.{number_is_text, number_step, number_step_over, ok_calls}
use Rattle.osm_operations.proofs.runs.publish_as.Goals as goal

pub returns-in-None : goal.returns-in-None
returns-in-None c =
    let s = c.args.setup.now in
    record {
      step = rw c.in-None.is (number_step None s.dir.now s.changes.now c.text_of-now.result.now c.as_str-text.result.now c.args.batch.now
          c.args.time c.args.number
          (files_of c.args.store.now) (files_of c.write_changes.new.store) (files_of c.publish_as_run.new.store) c.publish_as_run.result
          (number_is_text c.args.number c.as_str-text.result.now c.number_text.ensures.fits
          (c.as_str-text.ensures.value ∙ c.in_ok-digits.ensures.text))
          (rw c.text_of-now.ensures c.time_write-written.ensures.shows)
          (λ some. rw c.text_of-now.ensures (c.time_write-written.ensures.text some))
          c.in_ok-write_changes.ensures.written
          (record {
            published = c.publish_as_run.ensures.published;
            added = number_adds _ _ _ _ _ _ _ c.publish_as_run.result c.publish_as_run.ensures.over;
            exact = ok_calls c.publish_as_run.result s.dir.now c.as_str-text.result.now (files_of c.write_changes.new.store)
                None None c.publish_as_run.ensures.exact;
            stops = c.publish_as_run.ensures.stops;
            refuses = number_refuses _ _ _ _ _ _ _ c.publish_as_run.result c.publish_as_run.ensures.over;
            keeps = number_keeps _ _ _ _ _ _ _ c.publish_as_run.result c.publish_as_run.ensures.over;
            out = c.publish_as_run.ensures.out;
            others = c.publish_as_run.ensures.others;
          }));
    }

pub returns : goal.returns
returns c =
    let s = c.args.setup.now in
    record {
      step = rw c.in-Some.is (number_step_over (Some c.in-Some.calls) (Some c.stopping_over-stopping.result.calls)
          s.dir.now s.changes.now c.text_of-now.result.now c.as_str-text.result.now c.args.batch.now c.args.time c.args.number
          (files_of c.args.store.now) (files_of c.write_changes.new.store) (files_of c.stopping_over-stopping.result.inner)
          (files_of c.publish_as_run-answer.new.store.inner) (files_of c.into_inner.result) c.publish_as_run-answer.result
          (ap Some c.stopping_over-stopping.ensures.calls)
          c.stopping_over-stopping.ensures.inner
          (ap files_of c.into_inner.ensures)
          (number_is_text c.args.number c.as_str-text.result.now c.number_text.ensures.fits
          (c.as_str-text.ensures.value ∙ c.in_ok-digits.ensures.text))
          (rw c.text_of-now.ensures c.time_write-written.ensures.shows)
          (λ some. rw c.text_of-now.ensures (c.time_write-written.ensures.text some))
          c.in_ok-write_changes.ensures.written
          (record {
            published = c.publish_as_run-answer.ensures.published;
            added = number_adds _ _ _ _ _ _ _ c.publish_as_run-answer.result c.publish_as_run-answer.ensures.over;
            exact = ok_calls c.publish_as_run-answer.result s.dir.now c.as_str-text.result.now (files_of c.stopping_over-stopping.result.inner)
                (Some c.stopping_over-stopping.result.calls) (Some c.publish_as_run-answer.new.store.calls) c.publish_as_run-answer.ensures.exact;
            stops = c.publish_as_run-answer.ensures.stops;
            refuses = number_refuses _ _ _ _ _ _ _ c.publish_as_run-answer.result c.publish_as_run-answer.ensures.over;
            keeps = number_keeps _ _ _ _ _ _ _ c.publish_as_run-answer.result c.publish_as_run-answer.ensures.over;
            out = c.publish_as_run-answer.ensures.out;
            others = c.publish_as_run-answer.ensures.others;
          }));
    }
