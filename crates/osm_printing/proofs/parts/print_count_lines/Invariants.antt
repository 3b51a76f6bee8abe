use Rattle.osm_merged.specs.Ahead.{most_ahead}
use Rattle.osm_printing.specs.Steps.Parts.{count_lines}
use Rattle.osm_printing.proofs.PartLemmas.{Prints}
use Rattle.osm_printing.proofs.parts.print_count_lines.Given as goal

abbrev pub invariant-counts : goal.invariant-counts
invariant-counts g l = Prints l.fn.save
    (count_lines l.fn.counts) (g.S.Store.state l.fn.store) l.fn.source (g.W.Write.contents l.fn.writer) l.fn.printer
    (count_lines l.counts) (g.S.Store.state l.store) l.source (g.W.Write.contents l.writer) l.printer

abbrev pub decreases-counts : goal.decreases-counts
decreases-counts g l = most_ahead l.counts.ahead
