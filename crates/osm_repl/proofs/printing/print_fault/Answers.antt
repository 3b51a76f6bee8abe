use Rattle.std.proofs.Common.{◌∙◌, inr}
use Rattle.osm_repl.proofs.FaultLineLemmas.{fault_line}
use Rattle.osm_repl.proofs.printing.print_fault.Goals as goal

pub returns-in-Ok : goal.returns-in-Ok
returns-in-Ok g c = inr (fault_line c.args.order _ _ c.text.result.now c.in-Ok.ensures.0 c.write_text.result
    (c.text.ensures ∙ c.in-Ok.ensures.1) c.write_text.ensures.written c.write_text.ensures.fault)
