use Rattle.std.proofs.Common.{arith}
use Rattle.osm_model.specs.Limits.{IsId}
use Rattle.osm_opl.specs.Written.{ref_text}
use Rattle.osm_opl.proofs.BeginLemmas.{begins}
use Rattle.osm_opl.proofs.BeginFieldLemmas.{first_begins, next_begins, refs_begin}
use Rattle.osm_opl.proofs.after_lists.after_refs.Goals as goal

pub loop-count-init : goal.loop-count-init
loop-count-init c = record {
  items = first_begins ref_text IsId c.args.bytes.now c.in_ok-_first.rest.now
      (begins ref_text IsId c.in_ok-_first._first c.args.bytes.now c.in_ok-_first.rest.now c.in_ok-_first.ensures);
  few = omega arith;
}

pub loop-count-preserved : goal.loop-count-preserved
loop-count-preserved c = record {
  items = next_begins ref_text IsId c.args.bytes.now c.loop-count.rest.now c.in-Some.items.now c.in_ok-_id.after.now
      c.loop-count.count c.loop-count.invariant.items c.in-Some.ensures
      (begins ref_text IsId c.in_ok-_id._id c.in-Some.items.now c.in_ok-_id.after.now c.in_ok-_id.ensures);
  few = omega arith;
}

pub returns-in_default : goal.returns-in_default
returns-in_default c = refs_begin c.args.bytes.now c.loop-count.rest.now c.loop-count.count c.loop-count.invariant.items c.loop-count.invariant.few

pub returns : goal.returns
returns c = refs_begin c.args.bytes.now c.loop-count.rest.now c.loop-count.count c.loop-count.invariant.items c.loop-count.invariant.few
