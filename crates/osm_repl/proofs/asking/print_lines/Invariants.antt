use Rattle.std.proofs.Common.{◌≡◌, [], Ok, string_bytes}
use Rattle.std.specs.Io.Buffered.{reader_remaining}
use Rattle.osm_blocks.specs.Frames.{ReadsOften}
use Rattle.osm_repl.specs.Getting.{IsStoreFault}
use Rattle.osm_repl.specs.Steps.Getting.{Shown, at}
use Rattle.osm_repl.proofs.InputLemmas.{StandsIn}
use Rattle.osm_repl.proofs.asking.print_lines.Given as goal

abbrev pub invariant-lines : goal.invariant-lines
invariant-lines g l = record {
  dropped : l.notes.dropped ≡ l.fn.notes.dropped;
  unnoted : string_bytes l.notes.word ≡ [];
  read : l.question.is_read ≡ l.fn.question.is_read;
  frame : ReadsOften {T = Unit {0}} IsStoreFault (g.S.Store.state l.fn.store) (g.S.Store.state l.store) (Ok tt);
  shown : Shown (StandsIn (g.R.Read.remaining l.fn.reader) (reader_remaining (λ r. g.R.Read.remaining r.now) l.lines))
      (at (g.S.Store.state l.fn.store) l.fn.question (g.W.Write.contents l.fn.writer) l.fn.notes.lines.items)
      (at (g.S.Store.state l.store) l.question (g.W.Write.contents l.writer) l.notes.lines.items);
}
