use Rattle.std.proofs.Common.{inl, inr, refl}
use Rattle.osm_kept.specs.Names.{journal_name_of}
use Rattle.osm_store.specs.Frames.{IsKnown}
use Rattle.osm_printing.proofs.KeptLemmas.{alone_not_printed, alone_printed, keeping_stops, laid_there, starts_so}
use Rattle.osm_printing.proofs.LaidLemmas.{laid_is_cut, laid_is_printed}
use Rattle.osm_printing.proofs.PartLemmas.{frame_read}
use Rattle.osm_printing.proofs.laid.show_laid.Goals as goal

pub returns-in_default : goal.returns-in_default
returns-in_default g c =
    let a = g.S.Store.state c.args.store.now in
    let p = g.W.Write.contents c.args.writer.now in
    let q = g.W.Write.contents c.show_in_blocks.new.writer in
    let one = c.laws_of_kept.ensures.one_kept in
    let law = c.laws_of_kept.ensures.saved in
    record {
      printed = alone_printed one law (IsKnown a) c.args.save.now a.files c.args.laid.now p q c.requires.lays c.requires.free c.in_default.is
          c.show_in_blocks.result c.show_in_blocks.ensures.printed;
      not_printed = alone_not_printed one law (IsKnown a) c.args.save.now a.files c.args.laid.now p q c.requires.lays c.requires.free c.in_default.is
          c.show_in_blocks.result c.show_in_blocks.ensures.not_printed;
      frame = c.show_in_blocks.ensures.frame;
    }

pub check_laid-requires-clause-starts : goal.check_laid-requires-clause-starts
check_laid-requires-clause-starts g c = λ known.
    let a = g.S.Store.state c.args.store.now in
    starts_so (a.files c.args.save.now) (a.files (journal_name_of c.args.save.now)) c.args.laid.now c.in-Some.start (c.requires.lays known) c.in-Some.is

pub returns-in-Err-clause-not_printed : goal.returns-in-Err-clause-not_printed
returns-in-Err-clause-not_printed g c =
    let a = g.S.Store.state c.args.store.now in
    inl (record {
      stops = keeping_stops (IsKnown a) c.args.save.now a.files c.in-Err.fault
          (λ known. laid_there (a.files c.args.save.now) (a.files (journal_name_of c.args.save.now)) c.args.laid.now (c.requires.lays known))
          c.in-Err.ensures.stops;
      nothing = refl;
    })

pub returns-in-Ok-print_laid-clause-printed : goal.returns-in-Ok-print_laid-clause-printed
returns-in-Ok-print_laid-clause-printed g c =
    let a = g.S.Store.state c.args.store.now in
    let b = g.S.Store.state c.check_laid.new.store in
    laid_is_printed c.laws_of_kept.ensures.one_kept a b c.args.save.now c.args.laid.now c.in-Ok.checked (g.W.Write.contents c.args.writer.now)
    (g.W.Write.contents c.print_laid.new.writer) c.requires.lays c.requires.free (frame_read a b c.in-Ok.checked tt c.in-Ok.ensures.frame)
    c.in-Ok.ensures.checked c.in-Ok-print_laid.ensures.printed

pub returns-clause-not_printed : goal.returns-clause-not_printed
returns-clause-not_printed g c =
    let a = g.S.Store.state c.args.store.now in
    let b = g.S.Store.state c.check_laid.new.store in
    inr (laid_is_cut c.laws_of_kept.ensures.one_kept a b c.args.save.now c.args.laid.now c.in-Ok.checked (g.W.Write.contents c.args.writer.now)
    (g.W.Write.contents c.print_laid.new.writer) c.requires.lays c.requires.free (frame_read a b c.in-Ok.checked tt c.in-Ok.ensures.frame)
    c.in-Ok.ensures.checked c.in-Err-print_laid.fault c.in-Err-print_laid.ensures.cut)
