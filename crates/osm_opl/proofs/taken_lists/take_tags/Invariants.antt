use Rattle.std.proofs.Common.{◌≤◌, ◌-◌, length}
use Rattle.osm_model.specs.Lists.{IsTag}
use Rattle.osm_opl.specs.Written.{tag_text}
use Rattle.osm_opl.proofs.BeginFieldLemmas.{ItemsWith}
use Rattle.osm_opl.proofs.taken_lists.take_tags.Given as goal

abbrev pub invariant-loop-alloc : goal.invariant-loop-alloc
invariant-loop-alloc l = record {
  items : ItemsWith tag_text IsTag l.tags.items l.bytes l.rest;
  few : length l.tags.items ≤ 5000;
}

abbrev pub decreases-loop-alloc : goal.decreases-loop-alloc
decreases-loop-alloc l = 5000 - length l.tags.items
