use Rattle.std.proofs.Common.{Err, arith, ap, inl, inr, length, refl, string_bytes, ◌∙◌}
use Rattle.osm_blocks.proofs.OftenLemmas.{often_both, often_none, often_then}
use Rattle.osm_repl.specs.Getting.{IsStoreFault}
use Rattle.osm_repl.specs.Steps.Getting.{at}
use Rattle.osm_repl.proofs.GetLemmas.{shown_none}
use Rattle.osm_repl.proofs.InputLemmas.{StandsIn, line_read, lines_begin, lines_cut, lines_more_shown, reads_cut, stands_first}
use Rattle.osm_repl.proofs.asking.print_lines.Goals as goal

pub returns-in_default-clause-cut : goal.returns-in_default-clause-cut
returns-in_default-clause-cut g c =
    let input = g.R.Read.remaining c.args.reader.now in
    let start = at (g.S.Store.state c.args.store.now) c.args.question.now (g.W.Write.contents c.args.writer.now) c.args.notes.now.lines.items in
    reads_cut input input start start (string_bytes c.args.notes.now.word) _ (inr refl) c.requires.unnoted
    (shown_none (StandsIn input input) start (stands_first input))

pub lines-init : goal.lines-init
lines-init g c = record {
  dropped = refl;
  unnoted = c.requires.unnoted;
  read = refl;
  frame = often_none {T = Unit {0}} IsStoreFault (g.S.Store.state c.args.store.now) tt;
  shown = lines_begin (λ r. g.R.Read.remaining r.now) c.in-Ok.lines (g.R.Read.remaining c.args.reader.now) _ c.in-Ok.ensures.capacity
      c.in-Ok.ensures.empty (ap (λ r. g.R.Read.remaining r.now) c.in-Ok.ensures.inner);
}

-- the input isn't read on
pub returns-in-Err-clause-cut : goal.returns-in-Err-clause-cut
returns-in-Err-clause-cut g c =
    reads_cut (g.R.Read.remaining c.args.reader.now) _ _
    (at (g.S.Store.state c.lines.store) c.lines.question (g.W.Write.contents c.lines.writer) c.lines.notes.lines.items)
    (string_bytes c.lines.notes.word) c.input_fault.result c.input_fault.ensures c.lines.invariant.unnoted c.lines.invariant.shown

pub returns-clause-cut : goal.returns-clause-cut
returns-clause-cut g c =
    reads_cut (g.R.Read.remaining c.args.reader.now) _ _
    (at (g.S.Store.state c.lines.store) c.lines.question (g.W.Write.contents c.lines.writer) c.lines.notes.lines.items)
    (string_bytes c.lines.notes.word) _ (inl refl) c.lines.invariant.unnoted c.lines.invariant.shown

-- the lines before were printed, and this one isn't
pub returns-in-Err-print_line-clause-cut : goal.returns-in-Err-print_line-clause-cut
returns-in-Err-print_line-clause-cut g c =
    lines_cut (g.R.Read.remaining c.args.reader.now) _ _ c.as_slice.result.now _ _ _ _ _ _
    (line_read _ _ _ _ _ c.clear.ensures.items c.as_slice.ensures.value c.in-Ok-read_until.ensures.bytes c.in-Ok-read_until.ensures.rest)
    (λ none. omega (arith, c.as_slice.ensures.len, ap length none, c.in-Ok-read_until.ensures.ok, c.in-Ok-read_until.field-0-test))
    c.lines.invariant.shown c.in-Err-print_line.ensures.cut

pub returns-in-Err-print_line-clause-frame : goal.returns-in-Err-print_line-clause-frame
returns-in-Err-print_line-clause-frame g c =
    often_both {T = Unit {0}} IsStoreFault (g.S.Store.state c.args.store.now) (g.S.Store.state c.lines.store) (g.S.Store.state c.print_line.new.store) tt
    (Err c.in-Err-print_line.fault) c.lines.invariant.frame c.in-Err-print_line.ensures.frame

pub lines-preserved : goal.lines-preserved
lines-preserved g c = record {
  dropped = c.in-Ok-print_line.ensures.dropped ∙ c.lines.invariant.dropped;
  unnoted = c.in-Ok-print_line.ensures.unnoted;
  read = c.in-Ok-print_line.ensures.read ∙ c.lines.invariant.read;
  frame = often_then {V = Unit {0}} IsStoreFault (g.S.Store.state c.args.store.now) (g.S.Store.state c.lines.store)
      (g.S.Store.state c.print_line.new.store) tt tt tt c.lines.invariant.frame c.in-Ok-print_line.ensures.frame;
  shown = lines_more_shown (g.R.Read.remaining c.args.reader.now) _ _ c.as_slice.result.now _ _ _
      (line_read _ _ _ _ _ c.clear.ensures.items c.as_slice.ensures.value c.in-Ok-read_until.ensures.bytes c.in-Ok-read_until.ensures.rest)
      c.lines.invariant.shown c.in-Ok-print_line.ensures.shown;
}
