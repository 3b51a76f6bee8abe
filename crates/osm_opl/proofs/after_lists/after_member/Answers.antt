use Rattle.osm_opl.proofs.BeginFieldLemmas.{member_begins}
use Rattle.osm_opl.proofs.after_lists.after_member.Goals as goal

pub returns : goal.returns
returns c =
    member_begins c.args.bytes.now c.in_ok-_key.rest.now c.in_ok-after_byte.field-0.now c.after_text.result.now c.in_ok-_key._key
    c.in_ok-_key.ensures.parts c.in_ok-_key.ensures.limits c.in_ok-after_byte.ensures c.after_text.ensures
