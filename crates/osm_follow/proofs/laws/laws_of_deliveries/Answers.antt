use Rattle.osm_follow.proofs.FollowLemmas.{delivers_under_it, follows_kept}
use Rattle.osm_follow.proofs.laws.laws_of_deliveries.Goals as goal

pub returns : goal.returns
returns g c = record {
  follows = follows_kept _ _ c.laws.ensures.one_batch c.laws_of_state.ensures.no_fault_beside_state;
  same_filter = delivers_under_it _ _;
}
