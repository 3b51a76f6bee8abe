-- What a run of the follower came to: all that it was asked for, a part of it, or the numbers
-- before a faulty one.
use Rattle.std.specs.Prelude.{◌≡◌, ℕ, ◌<◌, List, None, Some, Result}
use Rattle.std.specs.Prelude.{Ok, Err}
use Rattle.osm_state.specs.declared.paths.Suffix.TheVariants.{State}
use Rattle.osm_runs.specs.Following.{IsFollowReport, limited, ranges}
use Rattle.osm_runs.specs.Reports.{ReportValue, applied_report_of}
use Rattle.osm_runs.specs.declared.fault.FileName.TheVariants.{Sequence}
use Rattle.osm_runs.specs.declared.fault.RunFault.{RunFault}
use Rattle.osm_runs.specs.declared.fault.RunFault.TheVariants.{TooLarge}
use Rattle.osm_runs.specs.declared.fault.RunFault.TheVariants.{BadState, Mismatch, BadChange}
use Rattle.osm_runs.specs.declared.fault.RunFault.TheVariants.{OlderNumber}
use Rattle.osm_runs.specs.declared.options.FollowOptions.{FollowOptions}
use Rattle.osm_runs.specs.declared.options.Layout.{Layout}
use Rattle.osm_runs.specs.declared.options.Layout.TheVariants.{Lines}
use Rattle.osm_runs.specs.declared.progress.Progress.{Progress}
use Rattle.osm_runs.specs.declared.progress.Progress.TheVariants.{Whole, Part, Before}

-- what a file of that number holds is the reason
abbrev pub IsOfContent : RunFault → ℕ → Type 0
IsOfContent (TooLarge (Sequence k suffix)) number = k ≡ number
IsOfContent (BadState (Sequence k State) cause) number = k ≡ number
IsOfContent (Mismatch k) number = k ≡ number
IsOfContent (OlderNumber k) number = k ≡ number
IsOfContent (BadChange (Sequence k suffix) place why) number = k ≡ number
IsOfContent fault number = ⊥

-- the report of a run that took so many numbers, and its lines without the number
pub record IsPartReport (layout : Layout) (report applied : ReportValue) (count : ℕ) : Type 0 where
  pub whole : IsFollowReport layout None report
  pub in_lines : layout ≡ Lines
  pub some : 0 < count
  pub count_is : whole.count ≡ count
  pub applied_is : applied ≡ applied_report_of (ranges whole.start count)

-- the report of what a run came to, whatever is known of the files: that of a faulty number has a
-- text of the fault
abbrev pub IsProgressReport : Layout → Progress → Type 0
IsProgressReport layout (Whole report) = IsFollowReport layout None report
IsProgressReport layout (Part report applied count) = IsPartReport layout report applied count
IsProgressReport layout (Before report fault) =
    ((said : List ℕ) × IsFollowReport layout (Some said) report)
    × ((number : ℕ) × IsOfContent fault number)

-- there is no faulty number, and this holds of the run under its options: those of a run that came
-- to a part have as limit what it took
abbrev pub IsWhole : FollowOptions → Result Progress RunFault
    → (FollowOptions → Result ReportValue RunFault → Type 0) → Type 0
IsWhole options (Ok (Whole report)) holds = holds options (Ok report)
IsWhole options (Ok (Part report applied count)) holds = holds (limited count options) (Ok report)
IsWhole options (Ok (Before report fault)) holds = ⊥
IsWhole options (Err fault) holds = holds options (Err fault)
