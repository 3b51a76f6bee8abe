use Rattle.std.proofs.Common.{arith}
use Rattle.osm_model.specs.declared.lists.Member.{Member}
use Rattle.osm_asking.proofs.ReferredLemmas.{noted_more}
use Rattle.osm_asking.proofs.referred.Referred.note_members.Goals as goal

pub loop-member-preserved : goal.loop-member-preserved
loop-member-preserved c =
    noted_more (λ (m : Member). m.key) c.args.self.now.keys.entries c.loop-member.self.keys.entries c.note_key.new.self.keys.entries c.args.members.now
    c.loop-member.member-index c.member-item.result c.loop-member.invariant (omega arith) c.member-item.is c.in_ok-note_key.ensures
