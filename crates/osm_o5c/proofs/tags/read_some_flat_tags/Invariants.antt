use Rattle.std.proofs.Common.{◌≡◌, ◌-◌, ◌≤◌, length}
use Rattle.osm_o5c.specs.ObjectReading.{many_at}
use Rattle.osm_o5c.specs.StringReading.{tag_at}
use Rattle.osm_o5c.proofs.ManyLemmas.{behind}
use Rattle.osm_o5c.proofs.tags.read_some_flat_tags.Given as goal

abbrev pub invariant-loop-rest : goal.invariant-loop-rest
invariant-loop-rest l = record {
  same : many_at tag_at 5000 l.fn.strings l.bytes ≡ behind l.found.items (many_at tag_at (5000 - length l.found.items) l.strings l.rest);
  few : length l.found.items ≤ 5000;
}

abbrev pub decreases-loop-rest : goal.decreases-loop-rest
decreases-loop-rest l = length l.rest
