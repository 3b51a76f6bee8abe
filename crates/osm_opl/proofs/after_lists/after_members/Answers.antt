use Rattle.std.proofs.Common.{arith}
use Rattle.osm_opl.specs.Written.{member_text}
use Rattle.osm_opl.specs.Flat.{IsMember}
use Rattle.osm_opl.proofs.BeginFieldLemmas.{first_begins, next_begins, members_begin}
use Rattle.osm_opl.proofs.after_lists.after_members.Goals as goal

pub loop-count-init : goal.loop-count-init
loop-count-init c = record {
  items = first_begins member_text IsMember c.args.bytes.now c.in_ok-rest.rest.now c.in_ok-rest.ensures;
  few = omega arith;
}

pub loop-count-preserved : goal.loop-count-preserved
loop-count-preserved c = record {
  items = next_begins member_text IsMember c.args.bytes.now c.loop-count.rest.now c.in-Some.items.now c.in_ok-rest-2.rest.now
      c.loop-count.count c.loop-count.invariant.items c.in-Some.ensures c.in_ok-rest-2.ensures;
  few = omega arith;
}

pub returns-in_default : goal.returns-in_default
returns-in_default c = members_begin c.args.bytes.now c.loop-count.rest.now c.loop-count.count c.loop-count.invariant.items c.loop-count.invariant.few

pub returns : goal.returns
returns c = members_begin c.args.bytes.now c.loop-count.rest.now c.loop-count.count c.loop-count.invariant.items c.loop-count.invariant.few
