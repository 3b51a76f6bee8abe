-- How far a follower is behind a state.
use Rattle.std.specs.Prelude.{◌≡◌, ℕ, ◌+◌, ◌-◌, ◌<◌, ◌≤◌, false, true, Option, None, Some, Result}
use Rattle.std.specs.Prelude.{Ok, Err}
use Rattle.osm_state.specs.State.{StateValue}
use Rattle.osm_follow.specs.Follower.{FollowerValue}
use Rattle.osm_follow.specs.declared.lag.Lag.{Lag}
use Rattle.osm_follow.specs.declared.lag.LagError.{LagError}
use Rattle.osm_follow.specs.declared.lag.LagError.TheVariants.{Broken, TopBehind, TimeBehind}
use Rattle.osm_follow.specs.declared.view.ViewError.{ViewError}
use Rattle.osm_follow.specs.declared.view.ViewError.TheVariants as views

-- the seconds from a follower's time to a state's: none if the follower has no time
abbrev pub AreSeconds : Option ℕ → ℕ → Option ℕ → Type 0
AreSeconds None top seconds = seconds ≡ None
AreSeconds (Some time) top seconds = (time ≤ top) × (seconds ≡ Some (top - time))

-- how far a number and its time are behind a state, or why there is no lag: each answer with all
-- its conditions, so that exactly one applies
abbrev pub LagsFrom : ℕ → Option ℕ → StateValue → Result Lag LagError → Type 0
LagsFrom number time s (Err Broken) = ⊥
LagsFrom number time s (Err TopBehind) = s.sequence < number
LagsFrom number time s (Err TimeBehind) =
    (number ≤ s.sequence) × ((t : ℕ) × (time ≡ Some t) × (s.time < t))
LagsFrom number time s (Ok lag) =
    (number + lag.behind ≡ s.sequence) × AreSeconds time s.time lag.seconds

-- how far a follower is behind a state: that of its number and its time, unless it is broken
abbrev pub Lags : FollowerValue → StateValue → Result Lag LagError → Type 0
Lags f s (Err Broken) = f.is_broken ≡ true
Lags f s answer = (f.is_broken ≡ false) × LagsFrom f.number f.time s answer

-- why there is no list of missing numbers: up to a state that isn't after the follower the list is
-- empty, and no memory is taken
abbrev pub MissingStops : FollowerValue → StateValue → ViewError → Type 0
MissingStops f s views.Broken = f.is_broken ≡ true
MissingStops f s views.WantOfMemory = (f.is_broken ≡ false) × (f.number < s.sequence)
