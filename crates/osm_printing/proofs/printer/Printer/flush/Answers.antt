use Rattle.std.proofs.Common.{◌≡◌, rules}
use Rattle.osm_printing.proofs.PutLemmas.{flush_fails}
use Rattle.osm_printing.proofs.printer.Printer.flush.Goals as goal

pub returns-in-Err-clause-fails : goal.returns-in-Err-clause-fails
returns-in-Err-clause-fails g c =
    let is : c.as_slice.result.now ≡ c.args.self.now = search rules in
    flush_fails (g.W.Write.contents c.args.writer.now) (g.W.Write.contents c.write_text.new.writer) c.as_slice.result.now c.args.self.now c.in-Err.fault is
    c.in-Err.ensures.fault
