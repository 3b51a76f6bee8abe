use Rattle.osm_follow.specs.Follower.{IsState}
use Rattle.osm_follow.specs.View.{IsView}
use Rattle.osm_world.specs.History.{accepted_of, base_of, published_of, start_of}
use Rattle.osm_world.proofs.AlikeLemmas.{one_view, state_alike}
use Rattle.osm_world.proofs.laws.laws_of_order.Goals as goal

pub returns-clause-followers : goal.returns-clause-followers
returns-clause-followers c = λ f g h v w same s t.
    let first : IsState f (published_of h) (base_of h) (start_of h) (accepted_of g) v.follower =
    rw (same.published, same.base, same.start) at (s.state same.first) in
    state_alike f (published_of h) (base_of h) (start_of h) (accepted_of g) (accepted_of h) v.follower w.follower
    same.accepted first (t.state same.second)

pub returns-clause-views : goal.returns-clause-views
returns-clause-views c = λ f g h v w same s t.
    let first : IsView f (published_of h) (base_of h) (start_of h) (accepted_of g) v = rw (same.published, same.base, same.start) at s.1 in
    one_view f (published_of h) (base_of h) (start_of h) (accepted_of g) (accepted_of h) v w same.accepted first t.1
