use Rattle.std.specs.Prelude.{List, ℤ}
use Rattle.osm_opl.specs.Flat.{AreFlatRefs}
use Rattle.osm_reading.proofs.PieceLemmas.{bytes_left}
use Rattle.osm_exporting.proofs.FlatLemmas.{RefsLeft}
use Rattle.osm_exporting.proofs.flat_writer.write_refs.Given as goal

abbrev pub invariant-loop-rest : goal.invariant-loop-rest
invariant-loop-rest l = (ids : List ℤ) → AreFlatRefs l.refs ids → RefsLeft l.fn.out.items l.out.items l.fn.counters l.counters ids l.rest

abbrev pub decreases-loop-rest : goal.decreases-loop-rest
decreases-loop-rest l = bytes_left l.rest
