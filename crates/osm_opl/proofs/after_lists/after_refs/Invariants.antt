use Rattle.std.proofs.Common.{◌≤◌, ◌-◌}
use Rattle.osm_model.specs.Limits.{IsId}
use Rattle.osm_opl.specs.Written.{ref_text}
use Rattle.osm_opl.proofs.BeginFieldLemmas.{ItemsBegin}
use Rattle.osm_opl.proofs.after_lists.after_refs.Given as goal

abbrev pub invariant-loop-count : goal.invariant-loop-count
invariant-loop-count l = record {
  items : ItemsBegin ref_text IsId l.bytes l.rest l.count;
  few : l.count ≤ 32000;
}

abbrev pub decreases-loop-count : goal.decreases-loop-count
decreases-loop-count l = 32000 - l.count
