use Rattle.osm_opl.proofs.BeginFieldLemmas.{relation_begins}
use Rattle.osm_opl.proofs.written.after_relation.Goals as goal

pub returns : goal.returns
returns c =
    relation_begins c.args.bytes.now c.in_ok-after_tags_field.field-0.now c.in_ok-rest.rest.now
    c.in_ok-after_tags_field.ensures c.in_ok-rest.ensures
