use Rattle.std.proofs.Common.{◌≡◌, ◌<◌, true}
use Rattle.osm_world.specs.History.{accepted_of}
use Rattle.osm_judge.proofs.ViewLemmas.{exactly_held, all_held, both_ways}
use Rattle.osm_judge.proofs.views.are_exactly_held.Goals as goal

pub returns-then-are_accepted : goal.returns-then-are_accepted
returns-then-are_accepted c = (
  λ t. exactly_held (λ j. (c.args.number < j) × (accepted_of c.args.history.now j ≡ true)) c.args.held.now
      (c.are_accepted.ensures.0 c.if-are_accepted.true) (λ j q. c.are_all_held.ensures.0 t j q.0 q.1),
  λ exact. c.are_all_held.ensures.1 (λ j above is. (exact j).1 (above, is)),
)

pub returns-else-are_accepted : goal.returns-else-are_accepted
returns-else-are_accepted c = (
  λ t. absurd (both_ways c.are_accepted.result c.if-are_accepted.false t),
  λ exact. c.are_accepted.ensures.1 (all_held (λ j. (c.args.number < j) × (accepted_of c.args.history.now j ≡ true)) c.args.held.now exact),
)
