use Rattle.osm_merge.specs.Faults.{IsDeviceFault, IsOfText}
use Rattle.osm_merge.specs.declared.lists.Totals.{Totals}
use Rattle.osm_merge.proofs.CallLemmas.{text_blames}
use Rattle.osm_merge.proofs.CheckLemmas.{no_text, text_stops}
use Rattle.osm_merge.proofs.FrameLemmas.{both_blameless}
use Rattle.osm_merge.proofs.merge.count_pass.Goals as goal

pub returns-clause-refused : goal.returns-clause-refused
returns-clause-refused g c = λ known.
    let told = (g.S.Store.state c.args.store.now).files c.args.name.now in
    let of_text : IsOfText c.in-Err.fault = c.is_of_text.ensures.0 c.if-not-is_of_text.false in
    text_stops told c.fault_of_text.result c.fault_of_text.ensures.of_text (no_text told c.in-Err.fault of_text (c.in-Err.ensures.refused known))

pub returns-clause-frame : goal.returns-clause-frame
returns-clause-frame g c =
    both_blameless {V = Totals} IsDeviceFault (g.S.Store.state c.args.store.now) (g.S.Store.state c.count_save.new.store)
    (g.S.Store.state c.check_save-checked.new.store)
    c.in-Err.fault c.fault_of_text.result c.check_save-checked.result c.in-Err.ensures.frame c.check_save-checked.ensures.frame
    (text_blames c.fault_of_text.result c.fault_of_text.ensures.of_text)

pub returns-clause-calls : goal.returns-clause-calls
returns-clause-calls g c = λ known. record { spent = tt; lacks = λ again. text_blames c.fault_of_text.result c.fault_of_text.ensures.of_text }
