use Rattle.osm_net.proofs.RecentLemmas.{room_for_next}
use Rattle.osm_net.proofs.recent.add_entries.Goals as goal

pub add_entry-requires-clause-room : goal.add_entry-requires-clause-room
add_entry-requires-clause-room c =
    room_for_next c.args.counts.now c.loop-number.counts c.args.entries.now c.loop-number.number-index (0, 0) c.loop-number-test.true
    c.loop-number.invariant c.requires.room
