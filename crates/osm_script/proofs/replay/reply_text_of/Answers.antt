use Rattle.osm_script.proofs.ReplayLemmas.{answered_none}
use Rattle.osm_script.proofs.replay.reply_text_of.Goals as goal

pub send_events-requires-clause-empty : goal.send_events-requires-clause-empty
send_events-requires-clause-empty c =
    answered_none c.laws_of_runs.ensures.first c.in-Ok.world c.new-2.result.items c.in-Ok.ensures.new c.new-2.ensures.items
