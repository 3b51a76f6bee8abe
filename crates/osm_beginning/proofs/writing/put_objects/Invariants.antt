use Rattle.std.proofs.Common.{◌≡◌, ◌+◌, []}
use Rattle.osm_beginning.proofs.PassLemmas.{HasLaid, Passing}
use Rattle.osm_data.specs.Reading.{read_calls}
use Rattle.osm_runs.specs.Runs.{IsDeviceFault}
use Rattle.osm_merge.specs.Laying.{Writes}
use Rattle.osm_beginning.proofs.writing.put_objects.Given as goal

abbrev pub invariant-batches : goal.invariant-batches
invariant-batches g l = record {
  passing : Passing IsDeviceFault g.D.DataReader.has_read
      (λ reader file. g.D.DataReader.calls_ahead reader file + g.D.DataReader.bytes_left reader file) (λ bytes. read_calls bytes + bytes)
      (g.S.Store.state l.fn.store) (g.S.Store.state l.store) l.fn.base l.reader
      (HasLaid l.fn.filter l.kept (Writes (g.S.Store.state l.fn.store) l.fn.writer (g.S.Store.state l.store) l.writer));
  none : l.kept.lines.items ≡ [];
}

abbrev pub decreases-batches : goal.decreases-batches
decreases-batches g l = g.D.DataReader.ahead l.reader
