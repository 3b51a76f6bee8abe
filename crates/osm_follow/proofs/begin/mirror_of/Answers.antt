use Rattle.std.proofs.Common.{◌≡◌, ◌++◌, ◌∷◌, arith}
use Rattle.std.proofs.lemmas.Grind.{common_steps}
use Rattle.std.specs.List.{AllByRecursion}
use Rattle.std.specs.Vec.Iter.{into_iter_items}
use Rattle.osm_mirror.specs.Mirror.{AreRising}
use Rattle.osm_model.specs.Data.{IsLeft}
use Rattle.osm_follow.proofs.BeginLemmas.{all_are_kept, kept_next, left_here, rising_next}
use Rattle.osm_follow.proofs.begin.mirror_of.Goals as goal

pub add-requires-clause-rising : goal.add-requires-clause-rising
add-requires-clause-rising c =
    let is : c.loop-object.yielded ++ c.in-Some.object ∷ into_iter_items c.next.new.self ≡ c.args.objects.items = grind (arith, common_steps) in
    let rising : AreRising (c.loop-object.yielded ++ c.in-Some.object ∷ into_iter_items c.next.new.self) = rw is c.requires.rising in
    rw c.loop-object.invariant.entered (rising_next c.args.filter.now c.loop-object.yielded c.in-Some.object (into_iter_items c.next.new.self) rising)

pub add-requires-clause-is_left : goal.add-requires-clause-is_left
add-requires-clause-is_left c =
    let is : c.loop-object.yielded ++ c.in-Some.object ∷ into_iter_items c.next.new.self ≡ c.args.objects.items = grind (arith, common_steps) in
    let left : AllByRecursion IsLeft (c.loop-object.yielded ++ c.in-Some.object ∷ into_iter_items c.next.new.self) = rw is c.requires.left in
    left_here c.loop-object.yielded c.in-Some.object (into_iter_items c.next.new.self) left

pub loop-object-preserved : goal.loop-object-preserved
loop-object-preserved c = record {
  rest = grind (arith, common_steps);
  entered = rw (kept_next c.args.filter.now c.loop-object.yielded c.in-Some.object, ← c.loop-object.invariant.entered) c.in-Ok.ensures;
}

pub returns-clause-kept : goal.returns-clause-kept
returns-clause-kept c =
    rw (c.from_parts.ensures, c.loop-object.invariant.entered) (all_are_kept c.args.filter.now c.loop-object.yielded)
