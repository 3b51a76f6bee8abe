use Rattle.std.proofs.Common.{◌∙◌, inr}
use Rattle.osm_repl.proofs.FaultLineLemmas.{audit_fault_line}
use Rattle.osm_repl.proofs.auditing.print_fault.Goals as goal

pub returns-in-Ok : goal.returns-in-Ok
returns-in-Ok g c = inr (audit_fault_line _ _ c.as_slice.result.now c.in-Ok.ensures.0 c.write_text.result
    (c.as_slice.ensures.value ∙ c.in-Ok.ensures.1) c.write_text.ensures.written c.write_text.ensures.fault)
