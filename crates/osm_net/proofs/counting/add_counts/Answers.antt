use Rattle.std.proofs.Common.{sym, subst, ◌∙◌}
use Rattle.osm_net.proofs.JoinedLemmas.{AreAdded, new_added, none_added, one_added, room_for_one}
use Rattle.osm_net.proofs.counting.add_counts.Goals as goal

pub loop-number-init : goal.loop-number-init
loop-number-init c =
    subst (AreAdded c.args.counts.now c.args.more.now c.args.counts.now)
    (sym (c.into_iter-number-iterator.ensures.into_iter_gives ∙ c.iter-number-items.ensures.rest))
    (none_added c.args.counts.now c.args.more.now c.limits.ensures.counts c.limits.ensures.numbers)

pub add-requires-clause-room : goal.add-requires-clause-room
add-requires-clause-room c =
    room_for_one c.args.counts.now c.args.more.now c.loop-number.counts c.loop-number.counts c.next.new.self (c.in-Some.number.now, c.in-Some.count.now)
    (subst (AreAdded c.args.counts.now c.args.more.now c.loop-number.counts) c.in-Some.ensures.steps c.loop-number.invariant) c.requires.room

pub loop-number-preserved : goal.loop-number-preserved
loop-number-preserved c =
    one_added c.args.counts.now c.args.more.now c.loop-number.counts c.add.new.self c.next.new.self (c.in-Some.number.now, c.in-Some.count.now)
    (subst (AreAdded c.args.counts.now c.args.more.now c.loop-number.counts) c.in-Some.ensures.steps c.loop-number.invariant) c.in-Ok.ensures.counted

pub returns-in_default-clause-refused : goal.returns-in_default-clause-refused
returns-in_default-clause-refused c =
    new_added c.args.counts.now c.args.more.now c.loop-number.counts c.loop-number.counts c.next.new.self (c.in-Some.number.now, c.in-Some.count.now)
    (subst (AreAdded c.args.counts.now c.args.more.now c.loop-number.counts) c.in-Some.ensures.steps c.loop-number.invariant) c.in_default.ensures.refused
