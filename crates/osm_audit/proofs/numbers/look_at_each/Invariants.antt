use Rattle.std.proofs.Common.{◌≤◌, ◌+◌, ◌-◌, ◌*◌, Ok}
use Rattle.osm_store.specs.Frames.{IsKnown}
use Rattle.osm_runs.specs.Runs.{ReadsUpTo}
use Rattle.osm_audit.specs.Steps.Looking.{IsLookedUpTo}
use Rattle.osm_audit.proofs.numbers.look_at_each.Given as goal

abbrev pub invariant-loop-before : goal.invariant-loop-before
invariant-loop-before g l = record {
  from : l.fn.from ≤ l.before + 1;
  until : l.before ≤ l.fn.to;
  frame : ReadsUpTo (3 * (l.before + 1 - l.fn.from)) (g.S.Store.state l.fn.store) (g.S.Store.state l.store) (Ok l.before);
  through : IsKnown (g.S.Store.state l.fn.store)
      → IsLookedUpTo (g.S.Store.state l.fn.store).files l.fn.dir l.fn.from (l.before + 1) l.findings.items l.looked;
}
