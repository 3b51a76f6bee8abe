use Rattle.std.proofs.Common.{◌≡◌, rules, arith, ◌++◌, ◌∷◌, [], length-append}
use Rattle.std.proofs.lemmas.Grind.{common_steps}
use Rattle.osm_world.proofs.world.World.run_with.Goals as goal

pub loop-event-init : goal.loop-event-init
loop-event-init c =
    let none : c.in_ok-replies.replies.items ≡ [] = search rules in
    record {
      room = grind (arith, common_steps);
      rest = grind (arith, common_steps);
      many = grind (arith, common_steps);
      run = rw (c.in_ok-world.ensures.new, none) (c.laws_of_runs.ensures.first c.args.filter);
      none = λ empty. c.in_ok-world.ensures.new;
    }

pub loop-event-preserved : goal.loop-event-preserved
loop-event-preserved c =
    let pushed : c.push.new.self.items ≡ c.loop-event.replies.items ++ c.step-reply.result ∷ [] = search rules in
    record {
      room = grind (arith, common_steps);
      rest = grind (arith, common_steps);
      many = grind (arith, common_steps);
      run = rw pushed (c.laws_of_runs.ensures.next c.args.filter c.loop-event.yielded c.loop-event.replies.items c.loop-event.world
          c.in-Some.event c.step-reply.result c.step-reply.new.self c.loop-event.invariant.run c.step-reply.ensures);
      none = λ empty. absurd (omega (arith, empty, length-append c.loop-event.yielded (c.in-Some.event ∷ [])));
    }
