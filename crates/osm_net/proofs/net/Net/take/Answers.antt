use Rattle.std.proofs.Common.{◌≡◌, ◌++◌, ◌∷◌, [], arith, refl}
use Rattle.std.proofs.lemmas.Grind.{common_steps}
use Rattle.std.specs.Vec.Iter.{into_iter_items}
use Rattle.osm_net.specs.Net.{NetValue, Takes}
use Rattle.osm_net.proofs.NetLemmas.{net_grown}
use Rattle.osm_net.proofs.RecentLemmas.{all_taken, changeset_needed, one_needed, one_taken, user_needed}
use Rattle.osm_net.proofs.net.Net.take.Goals as goal

pub loop-change-preserved : goal.loop-change-preserved
loop-change-preserved c = record {
  rest = grind (arith, common_steps);
  taken = one_taken c.args.filter.now c.args.self.now c.loop-change.self c.loop-change.users c.loop-change.changesets c.loop-change.yielded
      c.loop-change.invariant.taken c.in-Some.change c.take_one.new.self c.take_one.new.users c.take_one.new.changesets
      c.in-Ok.ensures.objects c.in-Ok.ensures.users c.in-Ok.ensures.changesets;
}

pub returns-in_default-clause-refused : goal.returns-in_default-clause-refused
returns-in_default-clause-refused c =
    let is : c.loop-change.yielded ++ c.in-Some.change ∷ into_iter_items c.next.new.self ≡ c.args.changes.items = grind (arith, common_steps) in
    rw (← is) (one_needed c.args.filter.now c.args.self.now c.loop-change.self c.loop-change.users c.loop-change.changesets c.loop-change.yielded
    c.loop-change.invariant.taken c.in-Some.change (into_iter_items c.next.new.self) c.in_default.ensures.refused)

pub returns-in_default-add_to-clause-refused : goal.returns-in_default-add_to-clause-refused
returns-in_default-add_to-clause-refused c =
    let is : c.loop-change.yielded ++ [] ≡ c.args.changes.items = grind (arith, common_steps) in
    let now : NetValue = record { objects = c.self.inside.objects; users = c.self.inside.users; changesets = c.self.inside.changesets } in
    rw (← is) (user_needed c.args.filter.now c.args.self.now now c.loop-change.users c.loop-change.changesets c.loop-change.yielded
    (rw c.self.view_is c.loop-change.invariant.taken) [] c.in_default-add_to.ensures.refused)

pub returns-in_default-add_to-2-clause-refused : goal.returns-in_default-add_to-2-clause-refused
returns-in_default-add_to-2-clause-refused c =
    let is : c.loop-change.yielded ++ [] ≡ c.args.changes.items = grind (arith, common_steps) in
    let now : NetValue = record { objects = c.self.inside.objects; users = c.self.inside.users; changesets = c.self.inside.changesets } in
    rw (← is) (changeset_needed c.args.filter.now c.args.self.now now c.loop-change.users c.loop-change.changesets c.loop-change.yielded
    (rw c.self.view_is c.loop-change.invariant.taken) [] c.in_default-add_to-2.ensures.refused)

pub returns-clause-taken : goal.returns-clause-taken
returns-clause-taken c = λ before net.
    let is : c.loop-change.yielded ≡ c.args.changes.items = grind (arith, common_steps) in
    let now : NetValue = record { objects = c.self.inside.objects; users = c.self.inside.users; changesets = c.self.inside.changesets } in
    let new : NetValue = record { objects = c.self.inside.objects; users = c.add_to.new.counts; changesets = c.add_to-2.new.counts } in
    let taken : Takes c.args.filter.now c.args.self.now c.loop-change.yielded new = all_taken c.args.filter.now c.args.self.now now
    c.loop-change.users c.loop-change.changesets c.loop-change.yielded (rw c.self.view_is c.loop-change.invariant.taken) new
    c.limits.ensures.orderly refl c.in-Ok-add_to.ensures.collects c.in-Ok-add_to-2.ensures.collects in
    rw (← is) (net_grown c.args.filter.now c.args.self.now new before c.loop-change.yielded taken net)
