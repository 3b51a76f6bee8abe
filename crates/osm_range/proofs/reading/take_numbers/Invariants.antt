use Rattle.std.proofs.Common.{◌≡◌, ◌+◌, ◌≤◌, Ok}
use Rattle.osm_store.specs.Frames.{IsKnown}
use Rattle.osm_blocks.specs.Frames.{ReadsOften}
use Rattle.osm_runs.specs.Runs.{IsDeviceFault}
use Rattle.osm_range.specs.Steps.Reading.{HasTaken}
use Rattle.osm_range.proofs.reading.take_numbers.Given as goal

abbrev pub invariant-loop-before : goal.invariant-loop-before
invariant-loop-before g l = record {
  at : l.place.number ≡ l.before;
  until : l.before ≤ l.fn.last;
  same : g.T.NumberTaker.settings l.taker ≡ g.T.NumberTaker.settings l.fn.taker;
  frame : ReadsOften IsDeviceFault (g.S.Store.state l.fn.store) (g.S.Store.state l.store) (Ok l.before);
  taken : HasTaken g.T.NumberTaker.holds (IsKnown (g.S.Store.state l.fn.store)) (g.S.Store.state l.fn.store).files l.fn.dir (l.fn.place.number + 1)
      l.taker l.place;
}
