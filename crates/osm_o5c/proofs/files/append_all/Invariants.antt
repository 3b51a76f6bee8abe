use Rattle.std.proofs.Common.{◌≡◌, ◌++◌, drop}
use Rattle.osm_o5c.specs.Written.{objects_text}
use Rattle.osm_o5c.proofs.files.append_all.Given as goal

abbrev pub invariant-loop-change : goal.invariant-loop-change
invariant-loop-change l = l.writer.out.items ++ objects_text l.writer.kind l.writer.state
    (drop l.change-index l.changes) ≡ l.fn.writer.out.items
    ++ objects_text l.fn.writer.kind l.fn.writer.state l.changes
