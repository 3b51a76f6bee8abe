use Rattle.std.proofs.Common.{◌≡◌, [], refl}
use Rattle.osm_o5c.specs.Datasets.{position}
use Rattle.osm_data.specs.declared.extents.Extent.TheVariants.{Whole}
use Rattle.osm_data.specs.Steps.Extents.{extent_at}
use Rattle.osm_data.proofs.ExtentLemmas.{step_passes}
use Rattle.osm_data.proofs.O5mReadingLemmas.{read_after, stands_first, stands_on, stops_there}
use Rattle.osm_data.proofs.datasets.read_datasets.Goals as goal

pub loop-reader-init : goal.loop-reader-init
loop-reader-init g c = record {
  stands = stands_first g.K.ObjectSink.takes c.args.held.now c.args.bytes.now c.in-Ok.reader c.last-last.result c.args.sink.now c.in-Ok.ensures
      c.last-last.ensures (c.laws.ensures.none c.args.sink.now);
  none = c.new-tags.ensures.items;
}

pub loop-reader-smaller : goal.loop-reader-smaller
loop-reader-smaller g c =
    let p = c.in-Ok-pass_dataset.ensures.passed in
    (step_passes (position c.loop-reader.reader [] c.loop-reader.rest.now)
    (position c.pass_dataset.new.reader p.objects c.in-Ok-pass_dataset.after.now) p.read).fewer

pub loop-reader-preserved : goal.loop-reader-preserved
loop-reader-preserved g c =
    let whole : extent_at c.loop-reader.rest.now ≡ Whole = c.is_next.ensures.whole c.loop-reader-test.true in
    record {
      stands = stands_on g.K.ObjectSink.takes c.args.held.now c.args.bytes.now c.args.sink.now c.loop-reader.reader c.loop-reader.last c.loop-reader.sink
          c.loop-reader.rest.now c.loop-reader.invariant.stands whole c.pass_dataset.new.reader c.pass_dataset.new.last c.pass_dataset.new.sink
          c.in-Ok-pass_dataset.after.now
          (λ xs ys a b. c.laws.ensures.more c.args.sink.now c.loop-reader.sink c.pass_dataset.new.sink xs ys a b) c.in-Ok-pass_dataset.ensures.passed;
      none = c.in-Ok-pass_dataset.ensures.none;
    }

pub returns-in-Err-Fault-clause-stops : goal.returns-in-Err-Fault-clause-stops
returns-in-Err-Fault-clause-stops g c =
    let whole : extent_at c.loop-reader.rest.now ≡ Whole = c.is_next.ensures.whole c.loop-reader-test.true in
    stops_there g.K.ObjectSink.takes c.args.held.now c.args.bytes.now c.args.sink.now c.loop-reader.reader c.loop-reader.last c.loop-reader.sink
    c.loop-reader.rest.now c.loop-reader.invariant.stands whole (rw c.in-Err-Fault.field-0-is at c.in-Err-Fault.ensures.refused)

pub returns-clause-read : goal.returns-clause-read
returns-clause-read g c =
    read_after g.K.ObjectSink.takes c.args.held.now c.args.bytes.now c.args.sink.now c.in-Ok-of.held c.loop-reader.reader c.loop-reader.last c.loop-reader.sink
    c.loop-reader.rest.now _ c.loop-reader.invariant.stands c.in-Ok-of.ensures.reader c.in-Ok-of.ensures.last refl
