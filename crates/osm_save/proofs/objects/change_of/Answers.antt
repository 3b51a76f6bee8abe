use Rattle.std.proofs.Common.{sym}
use Rattle.osm_opl.proofs.LineLaws.{line_again}
use Rattle.osm_save.proofs.ObjectLemmas.{no_change}
use Rattle.osm_save.proofs.objects.change_of.Goals as goal

pub returns-in-Ok : goal.returns-in-Ok
returns-in-Ok c = sym (line_again c.args.line.now c.in-Ok.change c.in-Ok.ensures.spelled)

pub returns-in-Err-Fault : goal.returns-in-Err-Fault
returns-in-Err-Fault c =
    let refused = rw c.in-Err-Fault.field-0-is at c.in-Err-Fault.ensures.refused in
    no_change c.args.line.now refused
