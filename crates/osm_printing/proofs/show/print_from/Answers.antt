use Rattle.std.proofs.Common.{refl, ◌∙◌}
use Rattle.osm_printing.proofs.PrintLemmas.{all_printed, copy_fails, first_fails, last_fails}
use Rattle.osm_printing.proofs.show.print_from.Goals as goal

pub returns-in-Err-write_text-clause-cut : goal.returns-in-Err-write_text-clause-cut
returns-in-Err-write_text-clause-cut g c =
    first_fails (g.S.Store.state c.args.store.now) c.args.save.now c.args.start (g.W.Write.contents c.args.writer.now)
    (g.W.Write.contents c.write_text.new.writer) c.as_slice.result.now c.in-Err-write_text.fault (c.as_slice.ensures.value ∙ c.in-Ok.ensures)
    c.in-Err-write_text.ensures.fault

pub returns-in-Err-copy_lists-clause-cut : goal.returns-in-Err-copy_lists-clause-cut
returns-in-Err-copy_lists-clause-cut g c =
    copy_fails (g.S.Store.state c.args.store.now) c.args.save.now c.args.start (g.W.Write.contents c.args.writer.now)
    (g.W.Write.contents c.write_text.new.writer) (g.W.Write.contents c.copy_lists.new.writer) c.as_slice.result.now c.in-Err-copy_lists.fault
    (c.as_slice.ensures.value ∙ c.in-Ok.ensures) c.in-Ok-write_text.ensures.written c.in-Err-copy_lists.ensures.stops

pub returns-in-Ok-write_text-2-clause-printed : goal.returns-in-Ok-write_text-2-clause-printed
returns-in-Ok-write_text-2-clause-printed g c =
    all_printed (g.S.Store.state c.args.store.now) c.args.save.now c.args.start (g.W.Write.contents c.args.writer.now)
    (g.W.Write.contents c.write_text.new.writer) (g.W.Write.contents c.copy_lists.new.writer) (g.W.Write.contents c.write_text-2.new.writer)
    c.as_slice.result.now _ (c.as_slice.ensures.value ∙ c.in-Ok.ensures) refl c.in-Ok-write_text.ensures.written c.in-Ok-copy_lists.ensures.copied
    c.in-Ok-write_text-2.ensures.written

pub returns-clause-cut : goal.returns-clause-cut
returns-clause-cut g c =
    last_fails (g.S.Store.state c.args.store.now) c.args.save.now c.args.start (g.W.Write.contents c.args.writer.now)
    (g.W.Write.contents c.write_text.new.writer) (g.W.Write.contents c.copy_lists.new.writer) (g.W.Write.contents c.write_text-2.new.writer)
    c.as_slice.result.now _ c.in-Err-write_text-2.fault (c.as_slice.ensures.value ∙ c.in-Ok.ensures) refl c.in-Ok-write_text.ensures.written
    c.in-Ok-copy_lists.ensures.copied c.in-Err-write_text-2.ensures.fault
