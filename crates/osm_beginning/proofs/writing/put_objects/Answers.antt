use Rattle.std.proofs.Common.{◌+◌, arith, refl}
use Rattle.osm_beginning.proofs.PassLemmas.{HasLaid, calls_end, calls_fail, laid_on, passing_begun, passing_more}
use Rattle.osm_beginning.specs.Steps.Sinks.{Lays}
use Rattle.osm_blocks.proofs.CallLemmas.{down_lacks, down_of, down_then}
use Rattle.osm_blocks.proofs.OftenLemmas.{often_then}
use Rattle.osm_data.specs.Reading.{read_calls}
use Rattle.osm_runs.specs.Runs.{IsDeviceFault}
use Rattle.osm_merge.specs.Laying.{Writes}
use Rattle.osm_merge.proofs.FrameLemmas.{has_still, writes_still}
use Rattle.osm_beginning.proofs.writing.put_objects.Goals as goal

pub batches-init : goal.batches-init
batches-init g c = record {
  passing = passing_begun IsDeviceFault g.D.DataReader.has_read (λ reader file. g.D.DataReader.calls_ahead reader file + g.D.DataReader.bytes_left reader file)
      (λ bytes. read_calls bytes + bytes) (g.S.Store.state c.args.store.now) c.args.base.now (g.S.Store.state c.open_base.new.store)
      c.in-Ok.reader c.in-Ok.reader
      (HasLaid c.args.filter.now c.new-kept.result (Writes (g.S.Store.state c.args.store.now) c.args.writer.now
      (g.S.Store.state c.open_base.new.store) c.args.writer.now))
      c.in-Ok.ensures.frame c.in-Ok.ensures.there c.in-Ok.ensures.opened c.in-Ok.ensures.calls
      (λ file has. (let left = c.in-Ok.ensures.left file has in let ahead = c.in-Ok.ensures.ahead file has in omega (arith, left, ahead)))
      (record {
        same = c.new-kept.ensures.filter;
        written = record {
          counted = omega (arith, c.new-kept.ensures.count);
          written = writes_still (g.S.Store.state c.args.store.now) (g.S.Store.state c.open_base.new.store) c.args.writer.now c.in-Ok.ensures.stage;
        };
        newest = c.new-kept.ensures.newest;
      });
  none = c.new-kept.ensures.lines;
}

pub returns-in-Ok-false-clause-calls : goal.returns-in-Ok-false-clause-calls
returns-in-Ok-false-clause-calls g c =
    calls_end IsDeviceFault g.D.DataReader.has_read (λ reader file. g.D.DataReader.calls_ahead reader file + g.D.DataReader.bytes_left reader file)
    (λ bytes. read_calls bytes + bytes) (g.S.Store.state c.args.store.now) c.args.base.now (g.S.Store.state c.batches.store) c.batches.reader
    (HasLaid c.args.filter.now c.batches.kept (Writes (g.S.Store.state c.args.store.now) c.args.writer.now (g.S.Store.state c.batches.store) c.batches.writer))
    c.batches.invariant.passing (g.S.Store.state c.next_objects.new.store) _
    (λ file done has read. (
      g.D.DataReader.calls_ahead c.batches.reader file,
      g.D.DataReader.calls_ahead c.next_objects.new.reader file,
      omega arith,
      (c.in-Ok-false.ensures.calls file has).spent,
    ))

pub returns-in-Err-put-clause-calls : goal.returns-in-Err-put-clause-calls
returns-in-Err-put-clause-calls g c =
    calls_fail IsDeviceFault g.D.DataReader.has_read (λ reader file. g.D.DataReader.calls_ahead reader file + g.D.DataReader.bytes_left reader file)
    (λ bytes. read_calls bytes + bytes) (g.S.Store.state c.args.store.now) c.args.base.now (g.S.Store.state c.batches.store) c.batches.reader
    (HasLaid c.args.filter.now c.batches.kept (Writes (g.S.Store.state c.args.store.now) c.args.writer.now (g.S.Store.state c.batches.store) c.batches.writer))
    c.batches.invariant.passing (g.S.Store.state c.put.new.store) c.in-Err-put.fault
    (λ file done has read blame.
    let fewer = (rw c.in-Ok-true.field-0-test at c.in-Ok-true.ensures.fewer) file done has read in
    down_lacks (g.D.DataReader.calls_ahead c.batches.reader file) (g.D.DataReader.calls_ahead c.next_objects.new.reader file) 1
    (g.D.DataReader.calls_ahead c.batches.reader file + g.D.DataReader.bytes_left c.batches.reader file) (g.S.Store.state c.batches.store).left
    (g.S.Store.state c.next_objects.new.store).left (omega (arith, fewer)) (c.in-Ok-true.ensures.calls file has).spent
    (c.in-Err-put.ensures.appends.calls.lacks (has_still (g.S.Store.state c.batches.store) (g.S.Store.state c.next_objects.new.store) c.in-Ok-true.field-0
    c.args.base.now file c.in-Ok-true.ensures.frame has).known blame))

pub batches-preserved : goal.batches-preserved
batches-preserved g c = record {
  passing = passing_more IsDeviceFault g.D.DataReader.has_read (λ reader file. g.D.DataReader.calls_ahead reader file + g.D.DataReader.bytes_left reader file)
      (λ bytes. read_calls bytes + bytes) (g.S.Store.state c.args.store.now) c.args.base.now (g.S.Store.state c.batches.store) c.batches.reader
      (HasLaid c.args.filter.now c.batches.kept (Writes (g.S.Store.state c.args.store.now) c.args.writer.now (g.S.Store.state c.batches.store)
      c.batches.writer)) c.batches.invariant.passing (g.S.Store.state c.put.new.store) c.next_objects.new.reader tt
      (λ objects. Lays c.batches.kept objects c.next_objects.new.sink)
      (HasLaid c.args.filter.now _ (Writes (g.S.Store.state c.args.store.now) c.args.writer.now (g.S.Store.state c.put.new.store) c.put.new.writer))
      (often_then {V = Unit {0}} IsDeviceFault (g.S.Store.state c.batches.store) (g.S.Store.state c.next_objects.new.store)
      (g.S.Store.state c.put.new.store) c.in-Ok-true.field-0 tt tt c.in-Ok-true.ensures.frame c.in-Ok-put.ensures.appends.frame)
      (rw c.in-Ok-true.field-0-test at c.in-Ok-true.ensures.read)
      (λ file done has read.
      let fewer = (rw c.in-Ok-true.field-0-test at c.in-Ok-true.ensures.fewer) file done has read in
      down_then (g.D.DataReader.calls_ahead c.batches.reader file) (g.D.DataReader.calls_ahead c.next_objects.new.reader file) 1 0
      (g.D.DataReader.calls_ahead c.batches.reader file + g.D.DataReader.bytes_left c.batches.reader file)
      (g.D.DataReader.calls_ahead c.next_objects.new.reader file + g.D.DataReader.bytes_left c.next_objects.new.reader file)
      (g.S.Store.state c.batches.store).left (g.S.Store.state c.next_objects.new.store).left (g.S.Store.state c.put.new.store).left
      (omega (arith, fewer)) (c.in-Ok-true.ensures.calls file has).spent
      (down_of 1 (g.S.Store.state c.next_objects.new.store).left (g.S.Store.state c.put.new.store).left c.in-Ok-put.ensures.appends.calls.spent))
      (λ done objects takes says. laid_on c.args.filter.now (g.S.Store.state c.args.store.now) (g.S.Store.state c.batches.store)
      (g.S.Store.state c.next_objects.new.store) (g.S.Store.state c.put.new.store) c.args.writer.now c.batches.writer c.put.new.writer
      c.in-Ok-true.field-0 c.batches.kept c.next_objects.new.sink _ done objects c.batches.invariant.passing.frame c.in-Ok-true.ensures.frame
      c.in-Ok-true.ensures.stage (rw c.as_slice.ensures.value at c.in-Ok-put.ensures.written) c.batches.invariant.none refl refl refl takes says);
  none = c.clear.ensures.items;
}
