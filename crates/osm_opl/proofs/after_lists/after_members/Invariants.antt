use Rattle.std.proofs.Common.{◌≤◌, ◌-◌}
use Rattle.osm_opl.specs.Written.{member_text}
use Rattle.osm_opl.specs.Flat.{IsMember}
use Rattle.osm_opl.proofs.BeginFieldLemmas.{ItemsBegin}
use Rattle.osm_opl.proofs.after_lists.after_members.Given as goal

abbrev pub invariant-loop-count : goal.invariant-loop-count
invariant-loop-count l = record {
  items : ItemsBegin member_text IsMember l.bytes l.rest l.count;
  few : l.count ≤ 32000;
}

abbrev pub decreases-loop-count : goal.decreases-loop-count
decreases-loop-count l = 32000 - l.count
