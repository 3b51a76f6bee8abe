use Rattle.osm_merged.specs.Ahead.{most_ahead}
use Rattle.osm_printing.specs.Steps.Parts.{object_lines}
use Rattle.osm_printing.proofs.PartLemmas.{Prints}
use Rattle.osm_printing.proofs.parts.print_object_lines.Given as goal

abbrev pub invariant-objects : goal.invariant-objects
invariant-objects g l =
    let f = l.fn.listing.opening.now.filter in Prints l.fn.listing.save.now
    (object_lines f l.fn.objects) (g.S.Store.state l.fn.store) l.fn.source (g.W.Write.contents l.fn.writer) l.fn.printer
    (object_lines f l.objects) (g.S.Store.state l.store) l.source (g.W.Write.contents l.writer) l.printer

abbrev pub decreases-objects : goal.decreases-objects
decreases-objects g l = most_ahead l.objects
