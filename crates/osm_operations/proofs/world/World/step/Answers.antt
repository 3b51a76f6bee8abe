use Rattle.osm_operations.proofs.WorldLemmas.{spoiled_files}
use Rattle.osm_operations.proofs.world.World.step.Goals as goal

pub returns-in-FollowSpoiled-clause-leaves : goal.returns-in-FollowSpoiled-clause-leaves
returns-in-FollowSpoiled-clause-leaves c =
    let s = c.args.setup.now in
    rw c.in-FollowSpoiled.is (spoiled_files c.args.filter.now s.dir.now s.save.now c.in-FollowSpoiled.number c.in-FollowSpoiled.suffix
    c.in-FollowSpoiled.calls c.follow_spoiled.result c.args.self.now c.follow_spoiled.new.self c.follow_spoiled.ensures.step)
