use Rattle.osm_opl.proofs.LineLaws.{line_only, line_refused, line_spelled}
use Rattle.osm_opl.proofs.lines.read_line.Goals as goal

pub returns-clause-spelled : goal.returns-clause-spelled
returns-clause-spelled c = line_spelled c.args.line.now c.read_change.result c.read_change.ensures

pub returns-clause-refused : goal.returns-clause-refused
returns-clause-refused c = line_refused c.args.line.now c.read_change.result c.read_change.ensures

pub returns-clause-only : goal.returns-clause-only
returns-clause-only c = line_only c.args.line.now c.read_change.result c.read_change.ensures
