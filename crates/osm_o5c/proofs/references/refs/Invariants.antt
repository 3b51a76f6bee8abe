use Rattle.std.proofs.Common.{◌≡◌, ◌-◌, ◌≤◌, length}
use Rattle.osm_o5c.specs.ObjectReading.{many_at, ref_at}
use Rattle.osm_o5c.proofs.ManyLemmas.{behind}
use Rattle.osm_o5c.proofs.references.refs.Given as goal

abbrev pub invariant-loop-rest : goal.invariant-loop-rest
invariant-loop-rest l = record {
  same : many_at ref_at 32000 l.fn.counters.way_node l.part ≡ behind l.found.items (many_at ref_at (32000 - length l.found.items) l.counters.way_node l.rest);
  few : length l.found.items ≤ 32000;
  others : l.counters ≡ record l.fn.counters { way_node = l.counters.way_node };
}

abbrev pub decreases-loop-rest : goal.decreases-loop-rest
decreases-loop-rest l = length l.rest
