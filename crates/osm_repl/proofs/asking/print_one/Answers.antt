use Rattle.std.proofs.Common.{refl}
use Rattle.osm_repl.specs.Steps.Getting.{at}
use Rattle.osm_repl.proofs.OneLemmas.{one_absent, one_cut, one_there, one_unnoted}
use Rattle.osm_repl.proofs.asking.print_one.Goals as goal

pub returns-in-Ok-true-clause-shown : goal.returns-in-Ok-true-clause-shown
returns-in-Ok-true-clause-shown g c =
    one_there c.args.key _ _ c.in-Ok-true.field-0 c.in-Ok-true.field-0-test c.in-Ok-true.ensures.printed (record {
      files = c.in-Ok-true.ensures.frame.files;
      known = c.in-Ok-true.ensures.frame.known;
      save = refl;
      same = c.in-Ok-true.ensures.same;
    }) c.in-Ok-true.ensures.refers refl

pub returns-in-Ok-clause-shown : goal.returns-in-Ok-clause-shown
returns-in-Ok-clause-shown g c =
    one_absent c.args.key _ _ c.in-Ok-false.field-0 c.in-Ok-false.field-0-test c.in-Ok-false.ensures.printed (record {
      files = c.in-Ok-false.ensures.frame.files;
      known = c.in-Ok-false.ensures.frame.known;
      save = refl;
      same = c.in-Ok-false.ensures.same;
    }) c.in-Ok-false.ensures.refers c.in-Ok.ensures.noted

pub returns-in-Err-note_absent-clause-cut : goal.returns-in-Err-note_absent-clause-cut
returns-in-Err-note_absent-clause-cut g c = rw c.in-Err-note_absent.ensures.unnoted
    (one_unnoted c.args.key
    (at (g.S.Store.state c.args.store.now) c.args.question.now (g.W.Write.contents c.args.writer.now) c.args.lines.now.items)
    (at (g.S.Store.state c.print.new.store)
    (record { save = c.args.question.now.save; asking = c.print.new.self; is_read = c.args.question.now.is_read })
    (g.W.Write.contents c.print.new.writer) c.args.lines.now.items)
    c.in-Ok-false.field-0 c.in-Ok-false.field-0-test c.in-Ok-false.ensures.printed)

pub returns-in-Err-clause-cut : goal.returns-in-Err-clause-cut
returns-in-Err-clause-cut g c = rw c.ask_fault.ensures
    (one_cut c.args.key
    (at (g.S.Store.state c.args.store.now) c.args.question.now (g.W.Write.contents c.args.writer.now) c.args.lines.now.items)
    (g.W.Write.contents c.print.new.writer) c.in-Err.fault c.in-Err.ensures.not_printed)
