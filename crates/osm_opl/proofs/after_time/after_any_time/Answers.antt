use Rattle.std.proofs.lemmas.List.{take_rest}
use Rattle.osm_opl.proofs.BeginLemmas.{time_begins}
use Rattle.osm_opl.proofs.after_time.after_any_time.Goals as goal

pub returns : goal.returns
returns c = rw (take_rest c.args.bytes.now 20) (time_begins c.args.bytes.now c.in_ok-time.time c.in_ok-time.ensures.sound)
