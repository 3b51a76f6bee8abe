use Rattle.osm_repl.proofs.OtherLemmas.{is_other, other_refused}
use Rattle.osm_repl.proofs.ShowLemmas.{show_done, show_refused}
use Rattle.osm_repl.proofs.execution.execute.Goals as goal

pub returns-in_ok-show_kept-in-Show-clause-done : goal.returns-in_ok-show_kept-in-Show-clause-done
returns-in_ok-show_kept-in-Show-clause-done g c = rw c.in-Show.is
    (show_done c.args.settings.options c.args.settings.sizes c.in-Show.save (g.S.Store.state c.args.store.now)
    (g.S.Store.state c.show_kept.new.store) (g.W.Write.contents c.args.writer.now) (g.W.Write.contents c.show_kept.new.writer)
    c.in_ok-show_kept-in-Show.ensures.printed)

pub returns-in_err-show_kept-in-Show-clause-not_done : goal.returns-in_err-show_kept-in-Show-clause-not_done
returns-in_err-show_kept-in-Show-clause-not_done g c = rw c.in-Show.is
    (show_refused c.args.settings.options c.args.settings.sizes c.in-Show.save (g.S.Store.state c.args.store.now)
    (g.S.Store.state c.show_kept.new.store) (g.W.Write.contents c.args.writer.now) (g.W.Write.contents c.show_kept.new.writer)
    c.in_err-show_kept-in-Show.field-0.0 c.from_residual-in_err-show_kept-in-Show.result c.from_residual-in_err-show_kept-in-Show.ensures.1
    c.in_err-show_kept-in-Show.ensures.not_printed c.in_err-show_kept-in-Show.ensures.frame.files
    c.in_err-show_kept-in-Show.ensures.frame.failed)

pub returns-in_err-run_and_print-in_default-clause-not_done : goal.returns-in_err-run_and_print-in_default-clause-not_done
returns-in_err-run_and_print-in_default-clause-not_done g c =
    other_refused c.args.settings c.args.order _ _ _ _ c.from_residual-in_err-run_and_print-in_default.result
    (is_other c.args.order c.in_default.not-Replay c.in_default.not-Follow c.in_default.not-Audit c.in_default.not-Show c.in_default.not-Changes
    c.in_default.not-Tally c.in_default.not-Get c.in_default.not-Counts c.in_default.not-Fingerprint)
    c.from_residual-in_err-run_and_print-in_default.ensures.1 c.in_err-run_and_print-in_default.ensures.not_done
