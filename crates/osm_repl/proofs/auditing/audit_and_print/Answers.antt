use Rattle.osm_repl.proofs.AuditLemmas.{not_audited}
use Rattle.osm_repl.proofs.auditing.audit_and_print.Goals as goal

pub returns-clause-not_done : goal.returns-clause-not_done
returns-clause-not_done g c =
    not_audited (g.S.Store.state c.args.store.now) (g.S.Store.state c.print_audit.new.store) c.args.layout c.args.dir.now c.args.from c.args.to
    c.in_ok-first.first c.in_ok-last.last (g.W.Write.contents c.args.writer.now) (g.W.Write.contents c.print_audit.new.writer)
    c.print_audit.result (record { first_is = c.in_ok-first.ensures.number; last_is = c.in_ok-last.ensures.number })
    c.print_audit.ensures.not_done
