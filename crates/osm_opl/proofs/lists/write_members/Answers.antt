use Rattle.std.proofs.Common.{arith, rules}
use Rattle.std.specs.Io.{StartsWith}
use Rattle.osm_opl.specs.Written.{items_text, member_text}
use Rattle.osm_opl.specs.Room.{LacksRoom}
use Rattle.osm_opl.proofs.RoomLemmas.{lacks_item}
use Rattle.osm_opl.proofs.WrittenLemmas.{items_more, items_start, on_err, starts_more}
use Rattle.osm_opl.proofs.lists.write_members.Goals as goal

pub returns-in_err-write_member-clause-err : goal.returns-in_err-write_member-clause-err
returns-in_err-write_member-clause-err c =
    on_err c.from_residual.result (StartsWith c.write_member.new.out.items c.args.out.now.items)
    (starts_more c.args.out.now.items c.loop-member.out.items c.write_member.new.out.items
    (items_start member_text c.args.out.now.items c.loop-member.out.items c.args.members.now c.loop-member.is_first
    c.loop-member.member-index c.loop-member.invariant.0) c.in_err-write_member.ensures.err)

pub loop-member-preserved : goal.loop-member-preserved
loop-member-preserved c = (
  items_more member_text c.args.out.now.items c.loop-member.out.items c.write_member.new.out.items c.args.members.now
      c.loop-member.is_first c.loop-member.member-index c.member-item.result c.loop-member.invariant.0
      (omega arith) c.member-item.is c.in_ok-write_member.ensures.ok,
  search (arith, rules),
)

pub returns-in_err-write_member-clause-refused : goal.returns-in_err-write_member-clause-refused
returns-in_err-write_member-clause-refused c =
    on_err c.from_residual.result (LacksRoom c.args.out.now (items_text member_text c.args.members.now))
    (lacks_item member_text c.args.out.now c.loop-member.out c.args.members.now c.loop-member.is_first
    c.loop-member.member-index c.member-item.result c.loop-member.invariant.0 (omega arith) c.member-item.is
    c.loop-member.invariant.1 c.in_err-write_member.ensures.refused)
