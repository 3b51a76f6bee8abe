use Rattle.std.proofs.Common.{refl}
use Rattle.osm_blocks.proofs.OftenLemmas.{often_none}
use Rattle.osm_printing.specs.Printing.{IsReadFault}
use Rattle.osm_printing.specs.Steps.Parts.{object_lines}
use Rattle.osm_printing.proofs.PartLemmas.{part_then, part_unput}
use Rattle.osm_printing.proofs.parts.print_objects.Goals as goal

pub returns-in-Err : goal.returns-in-Err
returns-in-Err g c =
    part_unput (object_lines c.args.listing.now.opening.now.filter c.args.objects.now)
    (often_none IsReadFault (g.S.Store.state c.args.store.now) (tt {0})) (λ file has. refl) c.in-Err.ensures.fails

pub returns : goal.returns
returns g c =
    part_then _ (often_none IsReadFault (g.S.Store.state c.args.store.now) (tt {0})) (λ file has. refl) c.in-Ok.ensures.put
    c.print_object_lines.ensures
