use Rattle.std.proofs.Common.{◌∙◌, arith, rules}
use Rattle.osm_beginning.proofs.PassLemmas.{HasCounted, calls_end, counted_on, passing_more}
use Rattle.osm_beginning.specs.Steps.Sinks.{Counts}
use Rattle.osm_data.specs.Reading.{read_calls}
use Rattle.osm_runs.specs.Runs.{IsDeviceFault}
use Rattle.osm_store.proofs.FileLemmas.{spends_both}
use Rattle.osm_beginning.proofs.counting.count_kept.Goals as goal

pub returns-in-Ok-false-clause-reads : goal.returns-in-Ok-false-clause-reads
returns-in-Ok-false-clause-reads g c = record {
  stops = tt;
  stage = c.in-Ok-false.ensures.stage ∙ c.batches.invariant.stage;
  frame = search rules;
  spends = spends_both 1 0 1 (g.S.Store.state c.args.store.now).left (g.S.Store.state c.batches.store).left
      (g.S.Store.state c.next_objects.new.store).left (omega arith) c.batches.invariant.spends c.in-Ok-false.ensures.frame.left;
  calls = calls_end IsDeviceFault g.D.DataReader.has_read g.D.DataReader.calls_ahead read_calls (g.S.Store.state c.args.store.now) c.args.base.now
      (g.S.Store.state c.batches.store) c.batches.reader (HasCounted c.args.filter.now c.batches.kept) c.batches.invariant.passing
      (g.S.Store.state c.next_objects.new.store) c.next_objects.new.sink.count
      (λ file done has read. (
        g.D.DataReader.calls_ahead c.batches.reader file,
        g.D.DataReader.calls_ahead c.next_objects.new.reader file,
        omega arith,
        (c.in-Ok-false.ensures.calls file has).spent,
      ));
}

pub batches-preserved : goal.batches-preserved
batches-preserved g c = record {
  passing = passing_more IsDeviceFault g.D.DataReader.has_read g.D.DataReader.calls_ahead read_calls (g.S.Store.state c.args.store.now) c.args.base.now
      (g.S.Store.state c.batches.store) c.batches.reader (HasCounted c.args.filter.now c.batches.kept) c.batches.invariant.passing
      (g.S.Store.state c.next_objects.new.store) c.next_objects.new.reader c.in-Ok-true.field-0
      (λ objects. Counts c.batches.kept objects c.next_objects.new.sink) (HasCounted c.args.filter.now c.next_objects.new.sink)
      c.in-Ok-true.ensures.frame (rw c.in-Ok-true.field-0-test at c.in-Ok-true.ensures.read)
      (λ file done has read. (c.in-Ok-true.ensures.calls file has).spent)
      (λ done objects takes says. counted_on c.args.filter.now c.batches.kept c.next_objects.new.sink done objects takes says);
  stage = c.in-Ok-true.ensures.stage ∙ c.batches.invariant.stage;
  spends = spends_both 1 0 1 (g.S.Store.state c.args.store.now).left (g.S.Store.state c.batches.store).left
      (g.S.Store.state c.next_objects.new.store).left (omega arith) c.batches.invariant.spends c.in-Ok-true.ensures.frame.left;
}
