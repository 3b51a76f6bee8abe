-- The state of a published sequence (OSM wiki, Planet.osm/diffs).
use Rattle.std.specs.Prelude.{ℕ, ◌≤◌}
use Rattle.osm_model.specs.Limits.{IsPositive, max_sequence}

-- a sequence number, and the time up to which its changes reach, in seconds since 1970 began
pub record StateValue : Type 0 where
  pub sequence : ℕ
  pub time : ℕ

-- a state within the limits
pub record IsState (s : StateValue) : Type 0 where
  pub sequence : s.sequence ≤ max_sequence
  pub time : IsPositive s.time
