use Rattle.osm_audit.proofs.ReportLemmas.{no_audit}
use Rattle.osm_audit.proofs.report.audit_line.Goals as goal

pub line_of-requires : goal.line_of-requires
line_of-requires c = rw (c.in_ok-value.ensures, c.in_ok-findings.ensures) (no_audit c.from.result c.to.result c.findings.result.now)
