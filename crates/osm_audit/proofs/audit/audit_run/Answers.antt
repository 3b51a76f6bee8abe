use Rattle.std.specs.Prelude.{Some, None}
use Rattle.osm_store.specs.Frames.{IsKnown}
use Rattle.osm_audit.proofs.WholeLemmas.{whole_audit}
use Rattle.osm_audit.proofs.audit.audit_run.Goals as goal

pub returns-in-Some-clause-whole : goal.returns-in-Some-clause-whole
returns-in-Some-clause-whole g c =
    whole_audit c.laws_of_state.ensures.no_fault_beside_state (IsKnown (g.S.Store.state c.args.store.now)) (g.S.Store.state c.args.store.now).files
    c.args.dir.now c.unwrap_or-from.result (Some c.in-Some.to) c.audit_up_to.result c.audit_up_to.ensures.asked c.audit_up_to.ensures.found

pub returns-in-None-clause-whole : goal.returns-in-None-clause-whole
returns-in-None-clause-whole g c =
    whole_audit c.laws_of_state.ensures.no_fault_beside_state (IsKnown (g.S.Store.state c.args.store.now)) (g.S.Store.state c.args.store.now).files
    c.args.dir.now c.unwrap_or-from.result None c.audit_to_top.result c.audit_to_top.ensures.asked c.audit_to_top.ensures.found
