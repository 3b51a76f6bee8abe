use Rattle.osm_opl.proofs.BeginFieldLemmas.{head_begins}
use Rattle.osm_opl.proofs.after.after_head.Goals as goal

pub returns : goal.returns
returns c =
    head_begins c.in_ok-_numbers._numbers c.args.bytes.now c.in_ok-_numbers.rest.now c.after_text.result.now
    c.in_ok-_numbers.ensures c.after_text.ensures
