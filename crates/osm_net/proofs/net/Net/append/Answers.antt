use Rattle.std.proofs.Common.{rules, ◌≡◌}
use Rattle.osm_net.specs.Net.{IsJoined, no_net}
use Rattle.osm_net.proofs.JoinedLemmas.{joined_grown, joined_none, nets_join}
use Rattle.osm_net.proofs.net.Net.append.Goals as goal

-- these are none, so both come to the later ones
pub returns-then-is_empty-clause-taken : goal.returns-then-is_empty-clause-taken
returns-then-is_empty-clause-taken c = λ f before after p q.
    let none : c.args.self.now ≡ no_net = search rules in
    rw c.later.view_is (nets_join f before after c.args.self.now c.args.later c.args.later p q
    (joined_none c.args.self.now c.args.later none c.limits-2.ensures.orderly))

pub returns-clause-taken : goal.returns-clause-taken
returns-clause-taken c = λ f before after p q.
    let joined : IsJoined c.args.self.now c.args.later
    (record { objects = c.append.new.self; users = c.add_counts.new.counts; changesets = c.add_counts-2.new.counts }) = search rules in
    nets_join f before after c.args.self.now c.args.later
    (record { objects = c.append.new.self; users = c.add_counts.new.counts; changesets = c.add_counts-2.new.counts }) p q joined

pub returns-clause-grown : goal.returns-clause-grown
returns-clause-grown c = λ most few.
    let joined : IsJoined c.args.self.now c.args.later
    (record { objects = c.append.new.self; users = c.add_counts.new.counts; changesets = c.add_counts-2.new.counts }) = search rules in
    joined_grown c.args.self.now c.args.later
    (record { objects = c.append.new.self; users = c.add_counts.new.counts; changesets = c.add_counts-2.new.counts })
    c.limits.ensures.orderly c.limits-2.ensures.orderly joined most few
