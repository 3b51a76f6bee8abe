use Rattle.std.proofs.Common.{◌≤◌, ◌-◌, length}
use Rattle.osm_opl.specs.Flat.{IsMember}
use Rattle.osm_opl.specs.Written.{member_text}
use Rattle.osm_opl.proofs.BeginFieldLemmas.{ItemsWith}
use Rattle.osm_opl.proofs.taken_lists.take_members.Given as goal

abbrev pub invariant-loop-alloc : goal.invariant-loop-alloc
invariant-loop-alloc l = record {
  items : ItemsWith member_text IsMember l.members.items l.bytes l.rest;
  few : length l.members.items ≤ 32000;
}

abbrev pub decreases-loop-alloc : goal.decreases-loop-alloc
decreases-loop-alloc l = 32000 - length l.members.items
