-- How far a follower is behind a state.
use Rattle.std.proofs.Common.{◌≡◌, ℕ, false, Option, subst}
use Rattle.std.specs.Prelude.{Result, Ok, Err}
use Rattle.osm_state.specs.State.{StateValue}
use Rattle.osm_follow.specs.Follower.{FollowerValue}
use Rattle.osm_follow.specs.Lag.{Lags, LagsFrom}
use Rattle.osm_follow.specs.declared.lag.Lag.{Lag}
use Rattle.osm_follow.specs.declared.lag.LagError.{LagError}
use Rattle.osm_follow.specs.declared.lag.LagError.TheVariants.{Broken, TopBehind, TimeBehind}

whole_lags : (f : FollowerValue) (s : StateValue) (answer : Result Lag LagError) → f.is_broken ≡ false
    → LagsFrom f.number f.time s answer → Lags f s answer
whole_lags f s (Err Broken) whole lags = absurd lags
whole_lags f s (Err TopBehind) whole lags = (whole, lags)
whole_lags f s (Err TimeBehind) whole lags = (whole, lags)
whole_lags f s (Ok lag) whole lags = (whole, lags)

-- a whole follower is behind as its number and its time are
pub lags_whole : (f : FollowerValue) (number : ℕ) (time : Option ℕ) (s : StateValue) (answer : Result Lag LagError)
    → number ≡ f.number → time ≡ f.time → f.is_broken ≡ false → LagsFrom number time s answer → Lags f s answer
lags_whole f number time s answer number_is time_is whole lags =
    whole_lags f s answer whole (subst (λ t. LagsFrom f.number t s answer) time_is
    (subst (λ n. LagsFrom n time s answer) number_is lags))
