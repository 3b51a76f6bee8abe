use Rattle.std.proofs.Common.{◌≤◌, ◌+◌, ◌-◌, ◌*◌, Ok}
use Rattle.osm_store.specs.Frames.{IsKnown}
use Rattle.osm_runs.specs.Runs.{ReadsUpTo}
use Rattle.osm_runs.specs.Steps.Following.{AreNamed}
use Rattle.osm_runs.proofs.missing.missing.Given as goal

abbrev pub invariant-loop-before : goal.invariant-loop-before
invariant-loop-before g l = record {
  from : l.fn.reached + 1 ≤ l.before;
  until : l.before ≤ l.last;
  frame : ReadsUpTo (3 * (l.before - (l.fn.reached + 1))) (g.S.Store.state l.fn.store) (g.S.Store.state l.store) (Ok l.before);
  named : AreNamed (IsKnown (g.S.Store.state l.fn.store)) (g.S.Store.state l.fn.store).files l.fn.dir l.fn.reached l.fn.top l.before l.missing.items;
}
