use Rattle.std.proofs.Common.{length}
use Rattle.osm_net.specs.Steps.Entries.{AreApart, entries_of, of_kind}
use Rattle.osm_net.proofs.JoinedLemmas.{ArePut}
use Rattle.osm_net.proofs.objects.NetObjects.append_kind.Given as goal

abbrev pub invariant-loop-id : goal.invariant-loop-id
invariant-loop-id l = record {
  apart : AreApart l.rows;
  put : ArePut l.initial.self (of_kind l.kind l.fn.later) l.self (of_kind l.kind (entries_of l.rows l.slots.items));
}

abbrev pub decreases-loop-id : goal.decreases-loop-id
decreases-loop-id l = length l.rows
