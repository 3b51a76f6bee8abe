-- What is printed of changes that are handed on: lines, or one line of JSON.
use Rattle.std.specs.Prelude.{ℕ, List, [], ◌++◌, Option, Some, None, codes, decimal}
use Rattle.std.specs.List.{flat_map}
use Rattle.serde_json.specs.Data.{Data, member, no_members, null, object, string}
use Rattle.osm_reading.specs.NumberLines.{numbered_line}
use Rattle.osm_runs.specs.JsonLine.{json_line, maybe_text, number_data, numbers_data}
use Rattle.osm_runs.specs.Reports.{ReportValue, gap_status}
use Rattle.osm_runs.specs.declared.options.Layout.{Layout}
use Rattle.osm_runs.specs.declared.options.Layout.TheVariants.{Json, Lines}
use Rattle.osm_range.specs.declared.report.Changed.{Changed}

-- changes FROM..TO: OBJECTS objects; nothing if no number was read
abbrev pub changed_line : Option Changed → List ℕ
changed_line None = []
changed_line (Some x) =
    codes "changes " ++ (decimal x.from ++ (codes ".." ++ (decimal x.to
    ++ (codes ": " ++ (decimal x.objects ++ codes " objects\n")))))

-- that, and missing K for each missing number
abbrev pub changes_text : Option Changed → List ℕ → List ℕ
changes_text changed missing =
    changed_line changed ++ flat_map (numbered_line (codes "missing ")) missing

-- what was changed, what is missing, and a fault
abbrev pub changed_data : Option Changed → Data → Data → Data
changed_data None missing fault = object (
    member (codes "changes") null (
    member (codes "fault") fault (
    member (codes "from") null (
    member (codes "missing") missing (
    member (codes "to") null no_members)))))
changed_data (Some x) missing fault = object (
    member (codes "changes") (number_data x.objects) (
    member (codes "fault") fault (
    member (codes "from") (number_data x.from) (
    member (codes "missing") missing (
    member (codes "to") (number_data x.to) no_members)))))

abbrev pub changes_data : Option Changed → List ℕ → Option (List ℕ) → Data
changes_data changed missing fault =
    changed_data changed (numbers_data missing) (maybe_text fault)

-- of a run that was refused
abbrev pub fault_data : List ℕ → Data
fault_data fault = changed_data None null (string fault)

-- the report: its status is 1 exactly if a number is missing. Lines don't show a fault
abbrev pub changes_report_of : Layout → Option Changed → List ℕ → Option (List ℕ) → ReportValue
changes_report_of Lines changed missing fault =
    record { status = gap_status missing; text = changes_text changed missing }
changes_report_of Json changed missing fault = record {
  status = gap_status missing;
  text = json_line (changes_data changed missing fault);
}

-- the report of a run that was refused, in JSON
abbrev pub fault_report_of : ℕ → List ℕ → ReportValue
fault_report_of status fault = record { status = status; text = json_line (fault_data fault) }
