use Rattle.std.proofs.Common.{Ok, drop}
use Rattle.osm_blocks.specs.Frames.{ReadsOften}
use Rattle.osm_store.specs.Frames.{IsDevice}
use Rattle.osm_range.specs.Steps.Rising.{changes_in_rows}
use Rattle.osm_range.proofs.writing.put_all.Given as goal
use Rattle.osm_runs.specs.Filling.{Fills}

abbrev pub invariant-loop-row : goal.invariant-loop-row
invariant-loop-row g l = record {
  frame : ReadsOften {T = Unit {0}} IsDevice (g.S.Store.state l.fn.store) (g.S.Store.state l.store) (Ok tt);
  fills : Fills (g.S.Store.state l.fn.store) (g.S.Store.state l.store) (g.M.TextMaker.ahead l.fn.maker (changes_in_rows l.changes))
      (g.M.TextMaker.ahead l.maker (changes_in_rows (drop l.row-index l.changes)));
}
