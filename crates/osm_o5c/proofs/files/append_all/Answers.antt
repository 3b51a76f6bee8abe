use Rattle.std.proofs.Common.{rules, sym, ◌+◌, drop}
use Rattle.osm_o5c.specs.Written.{objects_text}
use Rattle.osm_o5c.proofs.WriteLemmas.{objects_more, written_short}
use Rattle.osm_o5c.proofs.files.append_all.Goals as goal

pub loop-change-preserved : goal.loop-change-preserved
loop-change-preserved c =
    objects_more c.loop-change.writer.kind c.write_change.new.self.kind c.loop-change.writer.state
    c.write_change.new.self.state c.args.changes.now c.loop-change.change-index c.change-item.result
    c.loop-change.writer.out.items c.write_change.new.self.out.items _ (search rules) (sym c.change-item.is)
    c.loop-change.invariant (search rules) (search rules) (search rules)

pub returns-then-len-most-clause-refused : goal.returns-then-len-most-clause-refused
returns-then-len-most-clause-refused c =
    written_short c.args.writer.now.kind c.args.writer.now.state c.args.writer.now.out.items c.args.changes.now
    c.write_change.new.self.out.items
    (objects_text c.write_change.new.self.kind c.write_change.new.self.state
    (drop (c.loop-change.change-index + 1) c.args.changes.now)) c.args.most
    (objects_more c.loop-change.writer.kind c.write_change.new.self.kind c.loop-change.writer.state
    c.write_change.new.self.state c.args.changes.now c.loop-change.change-index c.change-item.result
    c.loop-change.writer.out.items c.write_change.new.self.out.items _ (search rules) (sym c.change-item.is)
    c.loop-change.invariant (search rules) (search rules) (search rules))
    (search rules)
