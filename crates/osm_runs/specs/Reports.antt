-- What the runs print, line by line, and their exit statuses.
use Rattle.std.specs.Prelude.{ℕ, List, [], ◌∷◌, ◌++◌, Option, Some, None, codes}
use Rattle.std.specs.List.{flat_map}
use Rattle.osm_reading.specs.NumberLines.{applied_line, numbered_line}
use Rattle.osm_runs.specs.JsonLine.{fault_data, follow_data, json_line, lag_data}
use Rattle.osm_runs.specs.declared.json_line.Standing.{Standing}
use Rattle.osm_runs.specs.declared.options.Layout.{Layout}
use Rattle.osm_runs.specs.declared.options.Layout.TheVariants.{Json, Lines}

-- an exit status, and lines that each end with LF
pub record ReportValue : Type 0 where
  pub status : ℕ
  pub text : List ℕ

-- nothing is printed
abbrev pub convert_report_of : ReportValue
convert_report_of = record { status = 0; text = [] }

-- published N
abbrev pub publish_report_of : ℕ → ReportValue
publish_report_of n = record { status = 0; text = numbered_line (codes "published ") n }

-- number N
abbrev pub begin_report_of : ℕ → ReportValue
begin_report_of n = record { status = 0; text = numbered_line (codes "number ") n }

-- seconds S, or seconds none
abbrev pub seconds_line : Option ℕ → List ℕ
seconds_line None = codes "seconds none\n"
seconds_line (Some n) = numbered_line (codes "seconds ") n

-- behind B, and the line of seconds
abbrev pub lag_report_of : ℕ → Option ℕ → ReportValue
lag_report_of behind seconds = record {
  status = 0;
  text = numbered_line (codes "behind ") behind ++ seconds_line seconds;
}

-- applied LOW..HIGH for each range, missing K for each missing number, and number N
unfoldable pub follow_text : List (ℕ × ℕ) → List ℕ → ℕ → List ℕ
follow_text applied missing number =
    flat_map applied_line applied ++ flat_map (numbered_line (codes "missing ")) missing
    ++ numbered_line (codes "number ") number

-- 1 exactly if a number is missing
abbrev pub gap_status : List ℕ → ℕ
gap_status [] = 0
gap_status (n ∷ missing) = 1

-- the report of a follower that applied those ranges and misses those numbers
abbrev pub follow_report_of : List (ℕ × ℕ) → List ℕ → ℕ → ReportValue
follow_report_of applied missing number =
    record { status = gap_status missing; text = follow_text applied missing number }

-- the same without the number, if nothing is missing
abbrev pub applied_report_of : List (ℕ × ℕ) → ReportValue
applied_report_of applied = record { status = 0; text = flat_map applied_line applied }

-- what a run of the follower came to: where it stands, the ranges that it applied, and the numbers
-- that are missing
pub record Outcome : Type 0 where
  pub standing : Standing
  pub applied : List (ℕ × ℕ)
  pub missing : List ℕ

-- its report, and the text of the fault that ended it, which lines don't show
abbrev pub report_of : Layout → Option (List ℕ) → Outcome → ReportValue
report_of Lines fault x = follow_report_of x.applied x.missing x.standing.number
report_of Json fault x = record {
  status = gap_status x.missing;
  text = json_line (follow_data x.standing x.applied x.missing fault);
}

-- the report of a lag
abbrev pub lag_told : Layout → Standing → ℕ → Option ℕ → ReportValue
lag_told Lines standing behind seconds = lag_report_of behind seconds
lag_told Json standing behind seconds =
    record { status = 0; text = json_line (lag_data standing) }

-- the report of a run that was refused, in JSON
abbrev pub fault_report_of : ℕ → List ℕ → ReportValue
fault_report_of status fault = record { status = status; text = json_line (fault_data fault) }
