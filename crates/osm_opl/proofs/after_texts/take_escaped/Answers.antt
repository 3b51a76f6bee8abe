use Rattle.osm_opl.proofs.BeginTextLemmas.{read_with}
use Rattle.osm_opl.proofs.after_texts.take_escaped.Goals as goal

pub returns-in-Ok : goal.returns-in-Ok
returns-in-Ok c =
    read_with c.args.bytes.now c.after_escaped-rest.result.now c.in-Ok.text c.after_escaped-rest.ensures c.in-Ok.ensures.value
