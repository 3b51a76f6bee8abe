use Rattle.osm_printing.proofs.PartLemmas.{first_cut, first_done}
use Rattle.osm_printing.proofs.parts.print_counts.Goals as goal

pub returns-in-Err : goal.returns-in-Err
returns-in-Err g c = first_cut _ c.in-Err.ensures

pub returns : goal.returns
returns g c = first_done c.in-Ok.ensures c.print_changesets.ensures
