use Rattle.std.proofs.Common.{List, ℕ, subst, sym}
use Rattle.osm_opl.specs.Line.{SpellsLine}
use Rattle.osm_opl.proofs.RoundTrip.{line_spells}
use Rattle.osm_asking.proofs.side.object_key.Goals as goal

pub returns : goal.returns
returns c = λ object is e.
    c.line_key.ensures object (subst (λ (l : List ℕ). SpellsLine l object) (sym e) (line_spells object is.limits))
