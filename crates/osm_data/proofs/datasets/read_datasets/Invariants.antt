use Rattle.std.proofs.Common.{◌≡◌, [], length}
use Rattle.osm_data.proofs.O5mReadingLemmas.{Stands}
use Rattle.osm_data.proofs.datasets.read_datasets.Given as goal

abbrev pub invariant-loop-reader : goal.invariant-loop-reader
invariant-loop-reader g l = record {
  stands : Stands g.K.ObjectSink.takes l.held l.bytes l.fn.sink l.reader l.last l.sink l.rest;
  none : l.tags.items ≡ [];
}

abbrev pub decreases-loop-reader : goal.decreases-loop-reader
decreases-loop-reader g l = length l.rest
