use Rattle.std.proofs.Common.{refl, Some, None, w64}
use Rattle.std.specs.BTreeMap.{is_at}
use Rattle.std.specs.Map.{lookup}
use Rattle.std.specs.Ordering.{int_cmp}
use Rattle.std.proofs.lemmas.Int.{to_z-of_z}
use Rattle.osm_net.specs.Steps.Index.{numbered}
use Rattle.osm_net.proofs.IndexLemmas.{found_as, looked_up}
use Rattle.osm_net.proofs.index.Index.get.Goals as goal

pub returns-in-Some : goal.returns-in-Some
returns-in-Some c =
    let found = found_as c.self.inside.others.entries (Some c.in-Some.slot.now) _ c.args.id (to_z-of_z w64 c.args.id c.ranges.id) c.in-Some.ensures.value in
    rw (← c.self.view_is) (looked_up c.self.inside.others.entries (numbered 0 c.self.inside.rising.items) c.args.id (Some c.in-Some.slot.now)
    (lookup (is_at (int_cmp c.args.id)) (numbered 0 c.self.inside.rising.items)) found refl)

pub returns-in-None : goal.returns-in-None
returns-in-None c =
    let none = found_as c.self.inside.others.entries None _ c.args.id (to_z-of_z w64 c.args.id c.ranges.id) c.in-None.ensures.value in
    let position = found_as (numbered 0 c.as_slice.result.now) c.position_of.result _ c.args.id (to_z-of_z w64 c.args.id c.ranges.id) c.position_of.ensures in
    rw (← c.self.view_is) (looked_up c.self.inside.others.entries (numbered 0 c.self.inside.rising.items) c.args.id None c.position_of.result none
    (rw (← c.as_slice.ensures.value) position))
