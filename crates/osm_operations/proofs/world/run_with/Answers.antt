use Rattle.std.proofs.Common.{rules, arith, ◌≡◌, ◌++◌, ◌∷◌, [], refl}
use Rattle.std.proofs.lemmas.Grind.{common_steps}
use Rattle.osm_store.specs.Stores.{files_of}
use Rattle.osm_operations.specs.Stepping.{LeadsFrom}
use Rattle.osm_operations.specs.declared.world.World.{World}
use Rattle.osm_operations.proofs.LeadsLemmas.{leads_on}
use Rattle.osm_operations.proofs.StepLemmas.{history_of-snoc, holds_at_end, starts_hold, step_holds}
use Rattle.osm_operations.proofs.world.run_with.Goals as goal

pub loop-operation-init : goal.loop-operation-init
loop-operation-init c =
    let s = c.args.setup.now in
    let none : c.in_ok-replies.replies.items ≡ [] = search rules in
    let world : World = record { alloc = c.args.alloc; store = c.args.store; lost = c.new.result; published = 0; exported = 0 } in
    let leads : LeadsFrom c.args.filter.now [] [] s.dir.now s.save.now s.changes.now s.extract.now (files_of c.args.store) world =
    record {
      first = world;
      is_first = record { files_are = refl; lost = c.new.ensures; published = refl; exported = refl };
      leads = refl;
    } in
    record {
      room = grind (arith, common_steps);
      rest = grind (arith, common_steps);
      many = grind (arith, common_steps);
      leads = rw none leads;
      steps = rw none (record { last = world; files_are = refl; from = leads });
      holds = λ apart new. starts_hold c.args.filter.now s.dir.now s.save.now s.changes.now s.extract.now _ new c.new.ensures refl refl;
      run = λ apart new. rw none (holds_at_end [] [] c.args.filter.now s.dir.now s.save.now s.changes.now s.extract.now
          (files_of c.args.store) world
          (starts_hold c.args.filter.now s.dir.now s.save.now s.changes.now s.extract.now world new c.new.ensures refl refl));
    }

pub loop-operation-preserved : goal.loop-operation-preserved
loop-operation-preserved c =
    let s = c.args.setup.now in
    let pushed : c.push.new.self.items ≡ c.loop-operation.replies.items ++ c.step-reply.result ∷ [] = search rules in
    let leads : LeadsFrom c.args.filter.now (c.loop-operation.yielded ++ c.in-Some.operation ∷ [])
    (c.loop-operation.replies.items ++ c.step-reply.result ∷ []) s.dir.now s.save.now s.changes.now s.extract.now
    (files_of c.args.store) c.step-reply.new.self =
    leads_on c.args.filter.now s.dir.now s.save.now s.changes.now s.extract.now c.loop-operation.yielded
    c.loop-operation.replies.items c.in-Some.operation c.step-reply.result (files_of c.args.store) c.loop-operation.world c.step-reply.new.self
    c.loop-operation.invariant.leads
    (record { step = c.step-reply.ensures.step; exported = c.step-reply.ensures.exported; leaves = c.step-reply.ensures.leaves }) in
    record {
      room = grind (arith, common_steps);
      rest = grind (arith, common_steps);
      many = grind (arith, common_steps);
      leads = rw pushed leads;
      steps = rw pushed (record { last = c.step-reply.new.self; files_are = refl; from = leads });
      holds = λ apart new. rw (
        pushed,
        history_of-snoc c.loop-operation.yielded c.loop-operation.replies.items
            c.in-Some.operation c.step-reply.result c.loop-operation.invariant.many,
      )
          (step_holds _ _ _ c.args.filter.now s.dir.now s.save.now s.changes.now s.extract.now _ _ _ apart
          (c.loop-operation.invariant.holds apart new) c.step-reply.ensures.step c.step-reply.ensures.exported);
      run = λ apart new. rw pushed (holds_at_end (c.loop-operation.yielded ++ c.in-Some.operation ∷ [])
          (c.loop-operation.replies.items ++ c.step-reply.result ∷ []) c.args.filter.now s.dir.now s.save.now s.changes.now s.extract.now
          (files_of c.args.store) c.step-reply.new.self
          (rw (history_of-snoc c.loop-operation.yielded c.loop-operation.replies.items c.in-Some.operation c.step-reply.result c.loop-operation.invariant.many)
          (step_holds _ _ _ c.args.filter.now s.dir.now s.save.now s.changes.now s.extract.now _ _ _ apart
          (c.loop-operation.invariant.holds apart new) c.step-reply.ensures.step c.step-reply.ensures.exported)));
    }
