use Rattle.std.proofs.Common.{rules, arith}
use Rattle.osm_o5c.proofs.LimitLemmas.{what_limits}
use Rattle.osm_o5c.proofs.reader.Reader.object.Goals as goal

pub within_limits-requires : goal.within_limits-requires
within_limits-requires c = (search rules, grind (arith, what_limits))
