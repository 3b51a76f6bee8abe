use Rattle.std.proofs.Common.{◌≡◌, ◌++◌}
use Rattle.osm_judge.proofs.legal.batch_of.Given as goal

abbrev pub invariant-loop-change : goal.invariant-loop-change
invariant-loop-change l = l.batch ++ l.change-iterator.rest.items ≡ l.fn.changes.items
