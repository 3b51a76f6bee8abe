use Rattle.std.proofs.Common.{◌≡◌, ◌+◌, ◌-◌, ◌*◌, arith}
use Rattle.osm_runs.specs.Names.{top_name_of}
use Rattle.osm_runs.specs.Runs.{IsDeviceFault}
use Rattle.osm_store.proofs.FrameLemmas.{reads_both, reads_ok}
use Rattle.osm_audit.specs.Audit.{audit_calls}
use Rattle.osm_audit.proofs.StateLemmas.{one_file}
use Rattle.osm_audit.proofs.audit.audit_to_top.Goals as goal

pub returns-clause-calls : goal.returns-clause-calls
returns-clause-calls g c = λ sure last is.
    let there = rw c.in-Ok.is at c.in_ok-top.ensures.top in
    let same : c.in-Ok.top.sequence ≡ last = (one_file ((g.S.Store.state c.args.store.now).files (top_name_of c.args.dir.now))
    c.in-Ok.top.sequence last c.in-Ok.top.time is.0 (there sure) is.1).0 in
    let to = c.sequence-to.ensures.sequence in
    (reads_ok _ _ _ _ _ _ _ (reads_both IsDeviceFault 1 0 0 1 (3 * (c.sequence-to.result + 1 - c.args.from)) (audit_calls c.args.from last)
    _ _ _ _ _ (omega arith) (omega (arith, same, to)) c.in_ok-top.ensures.frame c.in_ok-findings.ensures.frame)).at_most
