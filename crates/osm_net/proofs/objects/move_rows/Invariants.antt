use Rattle.std.proofs.Common.{◌≡◌, ◌++◌, ◌≤◌, length}
use Rattle.osm_net.specs.Steps.Entries.{AreApart, entries_of, of_kind}
use Rattle.osm_net.proofs.objects.move_rows.Given as goal

abbrev pub invariant-loop-id : goal.invariant-loop-id
invariant-loop-id l = record {
  apart : AreApart l.rows;
  few : length l.rows ≤ length l.fn.from;
  moved : l.entries.items ++ of_kind l.kind (entries_of l.rows l.slots.items) ≡ l.initial.entries.items ++ of_kind l.kind l.fn.from;
}

abbrev pub decreases-loop-id : goal.decreases-loop-id
decreases-loop-id l = length l.rows
