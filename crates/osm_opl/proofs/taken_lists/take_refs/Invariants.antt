use Rattle.std.proofs.Common.{◌≤◌, ◌-◌, length}
use Rattle.osm_model.specs.Limits.{IsId}
use Rattle.osm_opl.specs.Written.{ref_text}
use Rattle.osm_opl.proofs.BeginFieldLemmas.{ItemsWith}
use Rattle.osm_opl.proofs.taken_lists.take_refs.Given as goal

abbrev pub invariant-loop-rest : goal.invariant-loop-rest
invariant-loop-rest l = record {
  items : ItemsWith ref_text IsId l.refs.items l.bytes l.rest;
  few : length l.refs.items ≤ 32000;
}

abbrev pub decreases-loop-rest : goal.decreases-loop-rest
decreases-loop-rest l = 32000 - length l.refs.items
