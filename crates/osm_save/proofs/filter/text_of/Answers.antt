use Rattle.std.proofs.Common.{sym}
use Rattle.osm_opl.proofs.EscapeLaws.{text_again}
use Rattle.osm_save.proofs.FilterLemmas.{no_text}
use Rattle.osm_save.proofs.filter.text_of.Goals as goal

pub returns-in-Ok : goal.returns-in-Ok
returns-in-Ok c = sym (text_again c.args.line.now c.in-Ok.text c.in-Ok.ensures.spelled c.limits.ensures)

pub returns-in-Err-Fault : goal.returns-in-Err-Fault
returns-in-Err-Fault c =
    let refused = rw c.in-Err-Fault.field-0-is at c.in-Err-Fault.ensures.refused in
    no_text c.args.line.now refused
