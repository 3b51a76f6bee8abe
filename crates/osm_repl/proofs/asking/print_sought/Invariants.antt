use Rattle.std.proofs.Common.{◌≡◌, [], Ok, drop, string_bytes}
use Rattle.osm_blocks.specs.Frames.{ReadsOften}
use Rattle.osm_repl.specs.Getting.{IsStoreFault}
use Rattle.osm_repl.specs.Steps.Getting.{Shown, at, input_left}
use Rattle.osm_repl.proofs.GetLemmas.{GoesOn}
use Rattle.osm_repl.proofs.asking.print_sought.Given as goal

abbrev pub invariant-loop-each : goal.invariant-loop-each
invariant-loop-each g l = record {
  dropped : l.notes.dropped ≡ l.fn.notes.dropped;
  unnoted : string_bytes l.notes.word ≡ [];
  frame : ReadsOften {T = Unit {0}} IsStoreFault (g.S.Store.state l.fn.store) (g.S.Store.state l.store) (Ok tt);
  shown : Shown
      (GoesOn l.sought (drop l.each-index l.sought) (input_left l.fn.question.is_read (g.R.Read.remaining l.fn.reader))
      (input_left l.question.is_read (g.R.Read.remaining l.reader)))
      (at (g.S.Store.state l.fn.store) l.fn.question (g.W.Write.contents l.fn.writer) l.fn.notes.lines.items)
      (at (g.S.Store.state l.store) l.question (g.W.Write.contents l.writer) l.notes.lines.items);
}
