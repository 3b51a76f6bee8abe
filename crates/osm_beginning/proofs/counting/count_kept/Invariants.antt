use Rattle.std.proofs.Common.{◌≡◌}
use Rattle.osm_beginning.proofs.PassLemmas.{HasCounted, Passing}
use Rattle.osm_data.specs.Reading.{read_calls}
use Rattle.osm_runs.specs.Runs.{IsDeviceFault}
use Rattle.osm_store.specs.Files.{Spends}
use Rattle.osm_beginning.proofs.counting.count_kept.Given as goal

abbrev pub invariant-batches : goal.invariant-batches
invariant-batches g l = record {
  passing : Passing IsDeviceFault g.D.DataReader.has_read g.D.DataReader.calls_ahead read_calls (g.S.Store.state l.fn.store) (g.S.Store.state l.store)
      l.fn.base l.reader (HasCounted l.fn.filter l.kept);
  stage : (g.S.Store.state l.store).stage ≡ (g.S.Store.state l.fn.store).stage;
  spends : Spends 1 (g.S.Store.state l.fn.store).left (g.S.Store.state l.store).left;
}

abbrev pub decreases-batches : goal.decreases-batches
decreases-batches g l = g.D.DataReader.ahead l.reader
