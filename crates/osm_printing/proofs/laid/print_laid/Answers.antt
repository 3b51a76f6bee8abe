use Rattle.std.proofs.Common.{◌∙◌}
use Rattle.osm_net.specs.Lists.{net_in}
use Rattle.osm_printing.proofs.LaidLemmas.{laid_last, laid_lists, laid_printed}
use Rattle.osm_printing.proofs.laid.print_laid.Goals as goal

pub returns-in-Err-print_lists-clause-cut : goal.returns-in-Err-print_lists-clause-cut
returns-in-Err-print_lists-clause-cut g c =
    laid_lists (g.S.Store.state c.args.store.now) c.args.save.now c.args.laid.now.head (net_in c.args.laid.now.lists)
    c.args.totals (g.W.Write.contents c.args.writer.now) (g.W.Write.contents c.print_lists.new.writer) c.new-printer.result c.in-Err-print_lists.fault
    (c.new-printer.ensures ∙ c.in-Ok.ensures) c.in-Err-print_lists.ensures.cut

pub returns-in-Ok-print_last-clause-printed : goal.returns-in-Ok-print_last-clause-printed
returns-in-Ok-print_last-clause-printed g c =
    laid_printed (g.S.Store.state c.args.store.now) c.args.save.now c.args.laid.now.head (net_in c.args.laid.now.lists)
    c.args.totals (g.W.Write.contents c.args.writer.now) (g.W.Write.contents c.print_lists.new.writer) (g.W.Write.contents c.print_last.new.writer)
    c.new-printer.result
    c.print_lists.new.printer (c.new-printer.ensures ∙ c.in-Ok.ensures) c.in-Ok-print_lists.ensures.printed c.in-Ok-print_last.ensures.put

pub returns-clause-cut : goal.returns-clause-cut
returns-clause-cut g c =
    laid_last (g.S.Store.state c.args.store.now) c.args.save.now c.args.laid.now.head (net_in c.args.laid.now.lists)
    c.args.totals (g.W.Write.contents c.args.writer.now) (g.W.Write.contents c.print_lists.new.writer) (g.W.Write.contents c.print_last.new.writer)
    c.new-printer.result
    c.print_lists.new.printer c.in-Err-print_last.fault (c.new-printer.ensures ∙ c.in-Ok.ensures) c.in-Ok-print_lists.ensures.printed
    c.in-Err-print_last.ensures.fails
