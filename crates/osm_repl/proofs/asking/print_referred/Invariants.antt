use Rattle.std.proofs.Common.{Ok}
use Rattle.osm_blocks.specs.Frames.{ReadsOften}
use Rattle.osm_repl.specs.Getting.{IsStoreFault}
use Rattle.osm_repl.specs.Steps.Getting.{at}
use Rattle.osm_repl.proofs.GetLemmas.{TellsSoFar}
use Rattle.osm_repl.proofs.asking.print_referred.Given as goal

abbrev pub invariant-loop-key : goal.invariant-loop-key
invariant-loop-key g l = record {
  frame : ReadsOften {T = Unit {0}} IsStoreFault (g.S.Store.state l.fn.store) (g.S.Store.state l.store) (Ok tt);
  told : TellsSoFar l.key-items l.key-index
      (at (g.S.Store.state l.fn.store) l.fn.question (g.W.Write.contents l.fn.writer) l.fn.lines.items)
      (at (g.S.Store.state l.store) l.question (g.W.Write.contents l.writer) l.lines.items);
}
