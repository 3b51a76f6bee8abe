-- What an audit prints.
use Rattle.std.specs.Prelude.{◌≡◌, ℕ, List, [], ◌∷◌, ◌++◌, codes, decimal, map}
use Rattle.std.specs.List.{flat_map}
use Rattle.serde_json.specs.Data.{Data, array, member, no_members, null, object, string}
use Rattle.serde_json.specs.View.{items_of}
use Rattle.osm_runs.specs.JsonLine.{json_line, number_data}
use Rattle.osm_audit.specs.Audit.{AuditValue}
use Rattle.osm_audit.specs.Texts.{cause_of, name_of}
use Rattle.osm_audit.specs.declared.finding.Found.{Found}
use Rattle.osm_audit.specs.declared.finding.Found.TheVariants.{Numbers, File}

-- 1 exactly if something is wrong
abbrev pub findings_status : List Found → ℕ
findings_status [] = 0
findings_status (f ∷ found) = 1

-- ok FROM..TO
abbrev pub ok_line : ℕ → ℕ → List ℕ
ok_line from to =
    codes "ok " ++ (decimal from ++ (codes ".." ++ (decimal to ++ codes "\n")))

-- FIRST..LAST: not there
abbrev pub range_line : ℕ → ℕ → List ℕ
range_line first last =
    decimal first ++ (codes ".." ++ (decimal last ++ codes ": not there\n"))

-- FILE: CAUSE
abbrev pub finding_line : List ℕ → List ℕ → List ℕ
finding_line name cause = name ++ (codes ": " ++ (cause ++ codes "\n"))

-- a finding as a line
abbrev pub told_line : Found → List ℕ
told_line (Numbers first last) = range_line first last
told_line (File f) = finding_line (name_of f.file) (cause_of f.cause)

-- a range as data: it has no file
abbrev pub range_data : ℕ → ℕ → Data
range_data first last = object (
    member (codes "cause") (string (codes "not there")) (
    member (codes "number") (number_data first) (
    member (codes "to") (number_data last) no_members)))

-- a file as data
abbrev pub file_data : ℕ → List ℕ → List ℕ → Data
file_data number name cause = object (
    member (codes "cause") (string cause) (
    member (codes "file") (string name) (
    member (codes "number") (number_data number) no_members)))

abbrev pub finding_data : Found → Data
finding_data (Numbers first last) = range_data first last
finding_data (File f) = file_data f.number (name_of f.file) (cause_of f.cause)

abbrev pub findings_data : List Found → Data
findings_data found = array (items_of (map finding_data found))

-- of an audit
abbrev pub audit_data : ℕ → ℕ → Data → Data
audit_data from to findings = object (
    member (codes "fault") null (
    member (codes "findings") findings (
    member (codes "from") (number_data from) (
    member (codes "to") (number_data to) no_members))))

-- of a run without an audit
abbrev pub fault_data : List ℕ → Data
fault_data fault = object (
    member (codes "fault") (string fault) (
    member (codes "findings") null (
    member (codes "from") null (
    member (codes "to") null no_members))))

-- the text of an audit without findings, or of its findings in their order
abbrev pub lines_of : ℕ → ℕ → List Found → List ℕ
lines_of from to [] = ok_line from to
lines_of from to (f ∷ found) = flat_map told_line (f ∷ found)

-- the text of an audit
abbrev pub IsAuditText : AuditValue → List ℕ → Type 0
IsAuditText a text = text ≡ lines_of a.from a.to a.findings

-- the line of an audit
abbrev pub IsAuditLine : AuditValue → List ℕ → Type 0
IsAuditLine a line = line ≡ json_line (audit_data a.from a.to (findings_data a.findings))
