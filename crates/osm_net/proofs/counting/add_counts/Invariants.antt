use Rattle.osm_net.proofs.JoinedLemmas.{AreAdded}
use Rattle.osm_net.proofs.counting.add_counts.Given as goal

abbrev pub invariant-loop-number : goal.invariant-loop-number
invariant-loop-number l = AreAdded l.initial.counts l.fn.more l.counts l.number-iterator
