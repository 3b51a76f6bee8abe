use Rattle.std.proofs.Common.{string_bytes}
use Rattle.osm_repl.specs.Steps.Getting.{at}
use Rattle.osm_repl.proofs.OneLemmas.{refused_cut}
use Rattle.osm_repl.proofs.asking.print_line.Goals as goal

pub returns-in-Err-clause-cut : goal.returns-in-Err-clause-cut
returns-in-Err-clause-cut g c =
    refused_cut c.args.line.now c.text_of.result.now
    (at (g.S.Store.state c.args.store.now) c.args.question.now (g.W.Write.contents c.args.writer.now) c.args.notes.now.lines.items)
    (string_bytes c.key_of.new.noted) c.in-Err.fault c.text_of.ensures c.in-Err.ensures.refused
