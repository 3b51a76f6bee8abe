use Rattle.osm_opl.proofs.BeginFieldLemmas.{tag_begins}
use Rattle.osm_opl.proofs.after_lists.after_tag.Goals as goal

pub returns : goal.returns
returns c =
    tag_begins c.args.bytes.now c.after_text.result.now c.in_ok-value.value.now c.after_text-2.result.now
    c.after_text.ensures c.in_ok-value.ensures c.after_text-2.ensures
