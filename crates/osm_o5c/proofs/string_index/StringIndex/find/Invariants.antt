use Rattle.osm_o5c.proofs.IndexLemmas.{IsAhead}
use Rattle.osm_o5c.proofs.string_index.StringIndex.find.Given as goal

abbrev pub invariant-loop-at : goal.invariant-loop-at
invariant-loop-at l = IsAhead l.self l.text l.kept l.at

abbrev pub decreases-loop-at : goal.decreases-loop-at
decreases-loop-at l = l.at
