use Rattle.osm_asking.specs.Referring.{node_key}
use Rattle.osm_asking.proofs.ReferredLemmas.{IsNotedSoFar}
use Rattle.osm_asking.proofs.referred.Referred.note_nodes.Given as goal

abbrev pub invariant-loop-id : goal.invariant-loop-id
invariant-loop-id l = IsNotedSoFar node_key l.initial.self.keys.entries l.self.keys.entries l.ids l.id-index
