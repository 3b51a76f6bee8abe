use Rattle.std.proofs.Common.{◌≤◌, ◌-◌}
use Rattle.osm_model.specs.Lists.{IsTag}
use Rattle.osm_opl.specs.Written.{tag_text}
use Rattle.osm_opl.proofs.BeginFieldLemmas.{ItemsBegin}
use Rattle.osm_opl.proofs.after_lists.after_tags.Given as goal

abbrev pub invariant-loop-count : goal.invariant-loop-count
invariant-loop-count l = record {
  items : ItemsBegin tag_text IsTag l.bytes l.rest l.count;
  few : l.count ≤ 5000;
}

abbrev pub decreases-loop-count : goal.decreases-loop-count
decreases-loop-count l = 5000 - l.count
