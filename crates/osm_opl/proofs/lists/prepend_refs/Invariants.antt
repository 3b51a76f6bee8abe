use Rattle.osm_opl.proofs.WrittenLemmas.{RefsPut}
use Rattle.osm_opl.proofs.lists.prepend_refs.Given as goal

abbrev pub invariant-loop-left : goal.invariant-loop-left
invariant-loop-left l = RefsPut l.room l.start l.left l.refs

abbrev pub decreases-loop-left : goal.decreases-loop-left
decreases-loop-left l = l.left
