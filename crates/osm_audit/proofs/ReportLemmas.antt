-- No value of a line has a float.
use Rattle.std.proofs.Common.{◌≡◌, ℕ, List, [], ◌∷◌, map, false, refl}
use Rattle.serde_json.specs.View.{items_of}
use Rattle.serde_json.specs.Written.{has_float, items_have_float}
use Rattle.osm_audit.specs.declared.finding.Found.{Found}
use Rattle.osm_audit.specs.declared.finding.Found.TheVariants.{File, Numbers}
use Rattle.osm_audit.specs.Reports.{audit_data, fault_data, finding_data, findings_data}

no_findings : (found : List Found) → items_have_float (items_of (map finding_data found)) ≡ false
no_findings [] = refl
no_findings (Numbers first last ∷ found) = no_findings found
no_findings (File f ∷ found) = no_findings found

pub no_audit : (from to : ℕ) (found : List Found) → has_float (audit_data from to (findings_data found)) ≡ false
no_audit from to found = rw (no_findings found) refl

pub no_fault : (fault : List ℕ) → has_float (fault_data fault) ≡ false
no_fault fault = refl
