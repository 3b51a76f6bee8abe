use Rattle.std.proofs.Common.{◌≡◌, ◌++◌, ◌∷◌, [], arith, length, length-append}
use Rattle.std.proofs.lemmas.Grind.{common_steps}
use Rattle.std.specs.Vec.Iter.{into_iter_items}
use Rattle.osm_mirror.specs.Room.{HasRoom}
use Rattle.osm_mirror.proofs.MirrorLemmas.{room_left, Applies-append, GrowsBy-more}
use Rattle.osm_mirror.proofs.mirror.Mirror.apply.Goals as goal

pub apply_one-requires : goal.apply_one-requires
apply_one-requires c =
    let is : c.loop-change.yielded ++ c.in-Some.change ∷ into_iter_items c.next.new.self ≡ c.args.changes.items = grind (arith, common_steps) in
    let room : HasRoom (length (c.loop-change.yielded ++ c.in-Some.change ∷ into_iter_items c.next.new.self)) c.args.self.now = rw is c.requires in
    room_left c.args.filter.now c.args.self.now c.loop-change.self c.loop-change.yielded (into_iter_items c.next.new.self)
    c.in-Some.change room c.loop-change.invariant.applied

pub loop-change-preserved : goal.loop-change-preserved
loop-change-preserved c = record {
  rest = grind (arith, common_steps);
  applied = Applies-append c.args.filter.now c.args.self.now c.loop-change.self c.apply_one.new.self c.loop-change.yielded
      (c.in-Some.change ∷ []) c.loop-change.invariant.applied c.in-Ok.ensures.applied;
  grown = GrowsBy-more c.args.self.now c.loop-change.self c.apply_one.new.self (length c.loop-change.yielded) 1
      (length (c.loop-change.yielded ++ c.in-Some.change ∷ [])) c.loop-change.invariant.grown c.in-Ok.ensures.grown
      (length-append c.loop-change.yielded (c.in-Some.change ∷ []));
}
