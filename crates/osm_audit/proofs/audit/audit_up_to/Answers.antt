use Rattle.std.proofs.Common.{refl}
use Rattle.osm_store.specs.Frames.{IsKnown}
use Rattle.osm_runs.specs.Names.{top_name_of}
use Rattle.osm_audit.proofs.TopLemmas.{top_read}
use Rattle.osm_audit.proofs.audit.audit_up_to.Goals as goal

pub returns-clause-found : goal.returns-clause-found
returns-clause-found g c = λ sure.
    let found = rw (c.in_ok-read_top.ensures.frame.makes.known, c.in_ok-read_top.ensures.frame.files) at c.in_ok-findings.ensures.found in
    record {
      last = refl;
      found = found sure (rw c.ok-top.ensures.value (top_read c.laws_of_state.ensures.no_fault_beside_state (IsKnown (g.S.Store.state c.args.store.now))
          ((g.S.Store.state c.args.store.now).files (top_name_of c.args.dir.now)) c.in_ok-read_top.field-0 sure c.in_ok-read_top.ensures.top));
    }
