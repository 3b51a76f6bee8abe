use Rattle.osm_opl.proofs.BeginFieldLemmas.{way_begins}
use Rattle.osm_opl.proofs.written.after_way.Goals as goal

pub returns : goal.returns
returns c =
    way_begins c.args.bytes.now c.in_ok-after_tags_field.field-0.now c.in_ok-rest.rest.now
    c.in_ok-after_tags_field.ensures c.in_ok-rest.ensures
