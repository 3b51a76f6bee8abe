use Rattle.std.proofs.Common.{◌≡◌, ◌++◌, drop}
use Rattle.osm_o5c.specs.Written.{refs_text, last_ref}
use Rattle.osm_o5c.proofs.references.write_refs.Given as goal

abbrev pub invariant-loop-id : goal.invariant-loop-id
invariant-loop-id l = record {
  text : l.out.items ++ refs_text l.counters.way_node (drop l.id-index l.refs) ≡ l.fn.out.items ++ refs_text l.fn.counters.way_node l.refs;
  last : last_ref l.counters.way_node (drop l.id-index l.refs) ≡ last_ref l.fn.counters.way_node l.refs;
  others : l.counters ≡ record l.fn.counters { way_node = l.counters.way_node };
}
