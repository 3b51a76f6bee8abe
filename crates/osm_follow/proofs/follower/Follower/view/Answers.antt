use Rattle.std.proofs.lemmas.Map.Keys.{sorted_from_strictly_increasing}
use Rattle.osm_follow.proofs.follower.Follower.view.Goals as goal

pub returns-in-Ok-clause-rising : goal.returns-in-Ok-clause-rising
returns-in-Ok-clause-rising c = sorted_from_strictly_increasing c.in-Ok.view.held c.in-Ok.ensures.rising
