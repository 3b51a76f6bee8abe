-- How far a saved follower is behind a folder, and what a lag is over the folder of what was
-- published.
use Rattle.std.specs.Prelude.{◌≡◌, ℕ, ◌+◌, ◌<◌, List, length, Option, Some}
use Rattle.std.specs.Prelude.{Result, IfErr, IfOk}
use Rattle.osm_follow.specs.Lag.{AreSeconds}
use Rattle.osm_publisher.specs.Published.{PublishedValue, sequence_at, time_at}
use Rattle.osm_store.specs.Files.{Files}
use Rattle.osm_kept.specs.Names.{journal_name_of}
use Rattle.osm_kept.specs.Refusal.{HasNoOther}
use Rattle.osm_runs.specs.Following.{standing_at}
use Rattle.osm_runs.specs.Reports.{ReportValue, lag_told}
use Rattle.osm_runs.specs.declared.json_line.Standing.{Standing}
use Rattle.osm_runs.specs.declared.fault.FileName.TheVariants.{Top}
use Rattle.osm_runs.specs.declared.fault.RunFault.{RunFault}
use Rattle.osm_runs.specs.declared.fault.RunFault.TheVariants.{Absent, OtherJournal, ReadFault}
use Rattle.osm_runs.specs.declared.fault.RunFault.TheVariants.{TimeBehind, WantOfMemory}
use Rattle.osm_runs.specs.declared.options.Layout.{Layout}

-- a report of a lag, whatever is known of the files
abbrev pub IsLagReport : Layout → ReportValue → Type 0
IsLagReport layout report =
    (standing : Standing) × (behind : ℕ) × (seconds : Option ℕ)
    × (report ≡ lag_told layout standing behind seconds)

-- the lag of a follower that is in step with what was published, at that number
pub record IsLagOf (layout : Layout) (published : List PublishedValue) (base number : ℕ)
    (report : ReportValue) : Type 0 where
  pub behind : ℕ
  pub seconds : Option ℕ
  pub behind_is : number + behind ≡ length published
  pub seconds_are : AreSeconds (time_at published number)
      (sequence_at published (length published)).time seconds
  pub report_is : report ≡ lag_told layout (standing_at published base number) behind seconds

-- why a lag is refused over the folder of published sequences and a save in step with them:
-- besides memory and the device, only that nothing was published yet, that the last time is below
-- the save's, or that a journal of another save that ends above it lies there
abbrev pub LagStopsOver : List PublishedValue → ℕ → List ℕ → Files → RunFault → Type 0
LagStopsOver published number save files WantOfMemory = Unit {0}
LagStopsOver published number save files (ReadFault file) = Unit {0}
LagStopsOver published number save files (Absent file) = (file ≡ Top) × (length published ≡ 0)
LagStopsOver published number save files TimeBehind =
    (time : ℕ) × (time_at published number ≡ Some time)
    × ((sequence_at published (length published)).time < time)
LagStopsOver published number save files (OtherJournal last) =
    HasNoOther (files save) (files (journal_name_of save)) → ⊥
LagStopsOver published number save files fault = ⊥

-- what a run does over them: it tells the lag, or is refused
pub record LagsOver (layout : Layout) (published : List PublishedValue) (base number : ℕ)
    (save : List ℕ) (files : Files) (result : Result ReportValue RunFault) : Type 0 where
  pub in_step : IfOk result (IsLagOf layout published base number)
  pub refuses : IfErr result (LagStopsOver published number save files)
