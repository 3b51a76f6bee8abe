use Rattle.osm_net.specs.Lists.{net_in}
use Rattle.osm_printing.proofs.LaidLemmas.{lists_cut, lists_put, unopened_lists}
use Rattle.osm_printing.proofs.laid.print_lists.Goals as goal

pub returns-in-Err-clause-cut : goal.returns-in-Err-clause-cut
returns-in-Err-clause-cut g c = rw c.again_fault.ensures
    (unopened_lists (g.S.Store.state c.args.store.now) c.args.save.now (net_in c.args.lists.now)
    c.args.totals (g.W.Write.contents c.args.writer.now) c.args.printer.now c.in-Err.fault c.in-Err.ensures.refused)

pub returns-in-Ok-print_all-clause-printed : goal.returns-in-Ok-print_all-clause-printed
returns-in-Ok-print_all-clause-printed g c =
    lists_put c.laws_of_merged_saves.ensures.found c.laws_of_merged_saves.ensures.next (net_in c.args.lists.now) c.args.totals
    c.in-Ok.ensures.frame (rw c.as_slice-entries.ensures.value at c.in-Ok.ensures.opened) c.in-Ok-print_all.ensures

pub returns-clause-cut : goal.returns-clause-cut
returns-clause-cut g c =
    lists_cut c.laws_of_merged_saves.ensures.found c.laws_of_merged_saves.ensures.next (net_in c.args.lists.now) c.args.totals
    c.in-Ok.ensures.frame (rw c.as_slice-entries.ensures.value at c.in-Ok.ensures.opened) c.in-Err-print_all.ensures
