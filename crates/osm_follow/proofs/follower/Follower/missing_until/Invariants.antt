use Rattle.std.proofs.Common.{◌≡◌}
use Rattle.osm_follow.specs.Follower.{is_held}
use Rattle.osm_follow.proofs.ReachLemmas.{missing_among}
use Rattle.osm_follow.proofs.follower.Follower.missing_until.Given as goal

abbrev pub invariant-loop-index : goal.invariant-loop-index
invariant-loop-index l = l.missing.items ≡ missing_among (is_held l.self) l.self.number l.index
