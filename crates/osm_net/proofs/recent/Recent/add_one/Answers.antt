use Rattle.std.proofs.Common.{rules, ◌<◌, ◌%◌, length, arith}
use Rattle.osm_net.specs.Steps.Recent.{HasRoomIn}
use Rattle.osm_net.proofs.RecentLemmas.{room_for_entry}
use Rattle.osm_net.proofs.recent.Recent.add_one.Goals as goal

pub overflow_add-self : goal.overflow_add-self
overflow_add-self c =
    let all : HasRoomIn c.args.counts.now c.self.inside.entries 1 = rw c.self.view_is c.requires.room in
    let below : c.args.number % 1024 < length c.self.inside.entries = search rules in
    let room = room_for_entry c.args.counts.now c.self.inside.entries (c.args.number % 1024) 1 (0, 0) below all in
    omega (arith, room)
