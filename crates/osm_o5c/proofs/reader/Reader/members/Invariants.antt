use Rattle.std.proofs.Common.{◌≡◌, ◌-◌, ◌≤◌, length}
use Rattle.osm_o5c.specs.ObjectReading.{many_at, member_at}
use Rattle.osm_o5c.proofs.ManyLemmas.{behind}
use Rattle.osm_o5c.proofs.reader.Reader.members.Given as goal

abbrev pub invariant-loop-rest : goal.invariant-loop-rest
invariant-loop-rest l = record {
  same : many_at member_at 32000 l.fn.self l.part ≡ behind l.found.items (many_at member_at (32000 - length l.found.items) l.self l.rest);
  few : length l.found.items ≤ 32000;
}

abbrev pub decreases-loop-rest : goal.decreases-loop-rest
decreases-loop-rest l = length l.rest
