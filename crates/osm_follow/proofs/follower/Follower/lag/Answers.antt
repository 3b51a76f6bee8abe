use Rattle.std.proofs.Common.{◌≡◌, false, ap, sym, ◌∙◌, rules}
use Rattle.osm_follow.specs.Follower.{FollowerValue}
use Rattle.osm_follow.proofs.LagLemmas.{lags_whole}
use Rattle.osm_follow.proofs.follower.Follower.lag.Goals as goal

pub returns : goal.returns
returns c =
    let whole : c.self.inside.is_broken ≡ false = search rules in
    lags_whole c.args.self.now c.self.inside.number c.self.inside.time c.args.state.now c.lag_from.result
    (ap (λ (f : FollowerValue). f.number) c.self.view_is) (ap (λ (f : FollowerValue). f.time) c.self.view_is)
    (sym (ap (λ (f : FollowerValue). f.is_broken) c.self.view_is) ∙ whole) c.lag_from.ensures
