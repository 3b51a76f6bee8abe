use Rattle.osm_reading.proofs.PieceLemmas.{uncut_lacks}
use Rattle.osm_opl.proofs.flat.has_escape.Goals as goal

pub returns-in-None : goal.returns-in-None
returns-in-None c = λ no.
    let none = rw c.in-None.is at c.cut.ensures.first in
    uncut_lacks 37 c.args.bytes.now none.0
