-- Steps of a lag.
use Rattle.std.specs.Prelude.{◌≡◌, ℕ, ◌+◌, ◌<◌, ◌≤◌, Option, Some}
use Rattle.osm_save.specs.declared.head.Head.{Head}
use Rattle.osm_state.specs.State.{StateValue}
use Rattle.osm_follow.specs.Lag.{AreSeconds}
use Rattle.osm_runs.specs.Following.{standing_from}
use Rattle.osm_runs.specs.Reports.{ReportValue, lag_told}
use Rattle.osm_runs.specs.declared.fault.RunFault.{RunFault}
use Rattle.osm_runs.specs.declared.fault.RunFault.TheVariants.{TimeBehind, TopBehind}
use Rattle.osm_runs.specs.declared.fault.RunFault.TheVariants.{WantOfMemory}
use Rattle.osm_runs.specs.declared.options.Layout.{Layout}

-- the numbers and the seconds from a head to a state are reported
pub record IsTold (layout : Layout) (start : Head) (top : StateValue) (report : ReportValue) :
    Type 0 where
  pub behind : ℕ
  pub seconds : Option ℕ
  pub behind_is : start.number + behind ≡ top.sequence
  pub seconds_are : AreSeconds start.time top.time seconds
  pub report_is : report ≡ lag_told layout (standing_from start top) behind seconds

-- why no lag is reported
abbrev pub ToldStops : Head → StateValue → RunFault → Type 0
ToldStops start top WantOfMemory = Unit {0}
ToldStops start top TopBehind = top.sequence < start.number
ToldStops start top TimeBehind =
    (start.number ≤ top.sequence) × ((time : ℕ) × (start.time ≡ Some time) × (top.time < time))
ToldStops start top fault = ⊥
