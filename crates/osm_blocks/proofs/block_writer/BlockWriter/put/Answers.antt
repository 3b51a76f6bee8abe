use Rattle.std.proofs.Common.{◌≡◌, length, rules, arith}
use Rattle.osm_blocks.specs.Writing.{Waiting}
use Rattle.osm_blocks.proofs.WritingLemmas.{nothing_waits, written_at_once}
use Rattle.osm_blocks.proofs.block_writer.BlockWriter.put.Goals as goal

-- nothing waited, so what is appended comes after all that was
pub returns-in-Ok-clause-put : goal.returns-in-Ok-clause-put
returns-in-Ok-clause-put g c = λ known name text written.
    let empty : length c.self.inside.buffer.items ≡ 0 = search (arith, rules) in
    let buffer : Waiting = record { bytes = c.self.inside.buffer.items; is_writing = c.self.inside.is_writing } in
    written_at_once (g.S.Store.state c.args.store.now).stage (g.S.Store.state c.append.new.store).stage c.args.self.now
    c.args.bytes.now name text (nothing_waits buffer c.args.self.now c.self.view_is empty) written
    (λ appended staged. c.in-Ok.ensures.appended known name appended staged)
