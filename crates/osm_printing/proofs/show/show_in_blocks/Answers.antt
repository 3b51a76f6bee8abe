use Rattle.std.proofs.Common.{Err, inl, refl}
use Rattle.osm_blocks.proofs.OftenLemmas.{often_both, often_then}
use Rattle.osm_printing.specs.Printing.{IsReadFault}
use Rattle.osm_printing.proofs.PrintLemmas.{is_printed, not_printed, start_stops}
use Rattle.osm_printing.proofs.show.show_in_blocks.Goals as goal

pub returns-in-Err-read_start-clause-not_printed : goal.returns-in-Err-read_start-clause-not_printed
returns-in-Err-read_start-clause-not_printed g c = inl (record {
  stops = start_stops (g.S.Store.state c.args.store.now) (g.S.Store.state c.check_save.new.store) c.args.save.now c.in-Err-read_start.fault
      c.in-Ok.ensures.whole c.in-Ok.ensures.frame c.in-Err-read_start.ensures.stops;
  nothing = refl;
})

pub returns-in-Ok-print_from-clause-printed : goal.returns-in-Ok-print_from-clause-printed
returns-in-Ok-print_from-clause-printed g c =
    is_printed (g.S.Store.state c.args.store.now) (g.S.Store.state c.read_start.new.store) c.args.save.now c.in-Ok-read_start.start
    (g.W.Write.contents c.args.writer.now) (g.W.Write.contents c.print_from.new.writer) (record {
      b = g.S.Store.state c.check_save.new.store;
      whole = c.in-Ok.ensures.whole;
      checked = c.in-Ok.ensures.frame;
      starts = c.in-Ok-read_start.ensures.starts;
      read = c.in-Ok-read_start.ensures.frame;
    }) c.in-Ok-print_from.ensures.printed

pub returns-in-Err-print_from-clause-not_printed : goal.returns-in-Err-print_from-clause-not_printed
returns-in-Err-print_from-clause-not_printed g c =
    not_printed (g.S.Store.state c.args.store.now) (g.S.Store.state c.read_start.new.store) c.args.save.now c.in-Ok-read_start.start
    (g.W.Write.contents c.args.writer.now) (g.W.Write.contents c.print_from.new.writer) c.in-Err-print_from.fault (record {
      b = g.S.Store.state c.check_save.new.store;
      whole = c.in-Ok.ensures.whole;
      checked = c.in-Ok.ensures.frame;
      starts = c.in-Ok-read_start.ensures.starts;
      read = c.in-Ok-read_start.ensures.frame;
    }) c.in-Err-print_from.ensures.cut

pub returns-in-Err-print_from-clause-frame : goal.returns-in-Err-print_from-clause-frame
returns-in-Err-print_from-clause-frame g c =
    often_both IsReadFault (g.S.Store.state c.args.store.now) (g.S.Store.state c.read_start.new.store) (g.S.Store.state c.print_from.new.store) tt
    (Err c.in-Err-print_from.fault) (often_then {V = Unit {0}} IsReadFault (g.S.Store.state c.args.store.now) (g.S.Store.state c.check_save.new.store)
    (g.S.Store.state c.read_start.new.store) tt c.in-Ok-read_start.start tt c.in-Ok.ensures.frame c.in-Ok-read_start.ensures.frame)
    c.in-Err-print_from.ensures.frame
