use Rattle.osm_opl.proofs.FlatLemmas.{plain_member_is}
use Rattle.osm_opl.proofs.flat_lists.plain_member.Goals as goal

pub returns-clause-first : goal.returns-clause-first
returns-clause-first c = λ m more h.
    plain_member_is c.args.members.now c.in_ok-key.rest.now c.in_ok-after_byte.field-0.now c.cut_near.result.0.now c.in_ok-key.key m more
    c.cut_near.result.1 c.in_ok-key.ensures.parts c.in_ok-key.ensures.limits c.in_ok-after_byte.ensures c.cut_near.ensures.first h
