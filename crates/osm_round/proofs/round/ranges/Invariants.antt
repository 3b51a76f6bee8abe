use Rattle.std.proofs.Common.{◌≡◌, ◌≤◌, ◌-◌}
use Rattle.osm_runs.specs.Following.{ranges}
use Rattle.osm_round.proofs.round.ranges.Given as goal

abbrev pub invariant-loop-before : goal.invariant-loop-before
invariant-loop-before l = record {
  from : l.fn.from ≤ l.before;
  until : l.before ≤ l.fn.to;
  made : l.ranges.items ≡ ranges l.fn.from (l.before - l.fn.from);
}
