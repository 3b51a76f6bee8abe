-- The texts of a finding: the name of its file, and its cause.
use Rattle.std.specs.Prelude.{ℕ, List, [], ◌++◌, codes, decimal, nat_le, if◌then◌else◌}
use Rattle.osm_model.specs.Limits.{max_sequence}
use Rattle.osm_model.specs.declared.form.Why.{Why}
use Rattle.osm_model.specs.declared.form.Why.TheVariants as whys
use Rattle.osm_state.specs.Path.{path_text}
use Rattle.osm_state.specs.declared.paths.Suffix.{Suffix}
use Rattle.osm_state.specs.declared.state_text.StateError.{StateError}
use Rattle.osm_state.specs.declared.state_text.StateError.TheVariants as faults
use Rattle.osm_runs.specs.declared.fault.FileName.{FileName}
use Rattle.osm_runs.specs.declared.fault.FileName.TheVariants.{Top, Sequence}
use Rattle.osm_audit.specs.declared.finding.Cause.{Cause}
use Rattle.osm_audit.specs.declared.finding.Cause.TheVariants.{Absent, TooLarge, BadState, Mismatch}
use Rattle.osm_audit.specs.declared.finding.Cause.TheVariants.{TimeBack, BadChange, Differs}

-- AAA/BBB/CCC and the suffix; a number above 999,999,999 has no path
abbrev pub path_of : ℕ → Suffix → List ℕ
path_of number suffix = if nat_le number max_sequence then path_text number suffix else []

-- the name of a file of a folder; nothing is found of another file
abbrev pub name_of : FileName → List ℕ
name_of Top = codes "state.txt"
name_of (Sequence number suffix) = path_of number suffix
name_of file = []

abbrev pub fault_of : StateError → List ℕ
fault_of faults.MissingSequence = codes "MissingSequence"
fault_of faults.BadEscape = codes "BadEscape"
fault_of faults.BadSequence = codes "BadSequence"
fault_of faults.MissingTime = codes "MissingTime"
fault_of faults.BadTime = codes "BadTime"

abbrev pub why_of : Why → List ℕ
why_of whys.BadKind = codes "BadKind"
why_of whys.BadField = codes "BadField"
why_of whys.BadNumber = codes "BadNumber"
why_of whys.OutOfRange = codes "OutOfRange"
why_of whys.BadTime = codes "BadTime"
why_of whys.BadEscape = codes "BadEscape"
why_of whys.BadText = codes "BadText"
why_of whys.NoLocation = codes "NoLocation"
why_of whys.NoMetadata = codes "NoMetadata"
why_of whys.TooMany = codes "TooMany"
why_of whys.BadHeader = codes "BadHeader"
why_of whys.Truncated = codes "Truncated"
why_of whys.BadReference = codes "BadReference"
why_of whys.BadLength = codes "BadLength"
why_of whys.TrailingBytes = codes "TrailingBytes"
why_of whys.OutOfOrder = codes "OutOfOrder"
why_of whys.Deleted = codes "Deleted"

-- bad state: CAUSE
abbrev pub bad_state : StateError → List ℕ
bad_state fault = codes "bad state: " ++ fault_of fault

-- at PLACE: CAUSE
abbrev pub bad_change : ℕ → Why → List ℕ
bad_change place why = codes "at " ++ (decimal place ++ (codes ": " ++ why_of why))

-- a cause
abbrev pub cause_of : Cause → List ℕ
cause_of Absent = codes "not there"
cause_of TooLarge = codes "too large"
cause_of (BadState fault) = bad_state fault
cause_of Mismatch = codes "wrong number in state"
cause_of TimeBack = codes "TimeBack"
cause_of (BadChange place why) = bad_change place why
cause_of Differs = codes "differs"
