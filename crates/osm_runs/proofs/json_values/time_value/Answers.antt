use Rattle.osm_runs.proofs.JsonTimeLemmas.{time_is_text}
use Rattle.osm_runs.proofs.json_values.time_value.Goals as goal

pub unreachable-requires : goal.unreachable-requires
unreachable-requires c = c.in-Err.ensures.cases.0 (rw c.time_write.ensures.value (time_is_text c.args.time))
