use Rattle.std.proofs.Common.{◌≡◌, map, take}
use Rattle.serde_json.specs.View.{view}
use Rattle.osm_audit.specs.Reports.{finding_data}
use Rattle.osm_audit.proofs.report.findings_value.Given as goal

abbrev pub invariant-loop-finding : goal.invariant-loop-finding
invariant-loop-finding l = map view l.values.items ≡ map finding_data (take l.finding-index l.findings)
