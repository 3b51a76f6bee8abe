use Rattle.osm_model.specs.declared.lists.Member.{Member}
use Rattle.osm_asking.proofs.ReferredLemmas.{IsNotedSoFar}
use Rattle.osm_asking.proofs.referred.Referred.note_members.Given as goal

abbrev pub invariant-loop-member : goal.invariant-loop-member
invariant-loop-member l = IsNotedSoFar (λ (m : Member). m.key) l.initial.self.keys.entries l.self.keys.entries l.members l.member-index
