use Rattle.osm_exporting.proofs.FlatLemmas.{members_done, members_left, members_more, members_unread}
use Rattle.osm_exporting.proofs.flat_writer.write_members.Goals as goal

pub loop-rest-init : goal.loop-rest-init
loop-rest-init c = λ ms h. members_left c.args.out.now.items c.args.state.now ms c.args.members.now c.some_items-rest.result c.some_items-rest.ensures h

pub returns : goal.returns
returns c = λ ms h.
    members_done c.args.out.now.items c.loop-rest.out.items c.args.state.now c.loop-rest.state ms
    (rw c.in_default.is at (c.loop-rest.invariant ms h))

pub loop-rest-preserved : goal.loop-rest-preserved
loop-rest-preserved c = λ ms h.
    let first = rw c.in-Some-first_member.is at c.first_member.ensures.first in
    members_more c.args.out.now.items c.loop-rest.out.items c.write_member_parts.new.out.items c.args.state.now c.loop-rest.state
    c.write_member_parts.new.state ms c.in-Some.items (record { key = c.in-Some-first_member.key; role = c.in-Some-first_member.role.now })
    c.in-Some-first_member.more (rw c.in-Some.is at (c.loop-rest.invariant ms h)) first c.in_ok-write_member_parts.ensures.text
    c.in_ok-write_member_parts.ensures.state_is

pub returns-in_default-first_member : goal.returns-in_default-first_member
returns-in_default-first_member c = λ ms h.
    let none = rw c.in_default-first_member.is at c.first_member.ensures.first in
    members_unread c.args.out.now.items c.loop-rest.out.items c.args.state.now c.loop-rest.state ms c.in-Some.items
    (rw c.in-Some.is at (c.loop-rest.invariant ms h)) none
