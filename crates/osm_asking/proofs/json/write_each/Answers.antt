use Rattle.std.proofs.Common.{arith}
use Rattle.osm_opl.proofs.WrittenLemmas.{items_more}
use Rattle.osm_asking.specs.Json.{member_json}
use Rattle.osm_asking.proofs.json.write_each.Goals as goal

pub loop-member-preserved : goal.loop-member-preserved
loop-member-preserved c =
    items_more member_json c.args.out.now.items c.loop-member.out.items c.write_member.new.out.items c.args.members.now c.loop-member.is_first
    c.loop-member.member-index c.member-item.result c.loop-member.invariant (omega arith) c.member-item.is c.in_ok-write_member.ensures
