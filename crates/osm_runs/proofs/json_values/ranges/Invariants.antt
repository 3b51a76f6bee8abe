use Rattle.std.proofs.Common.{◌≡◌, map, take}
use Rattle.serde_json.specs.View.{view}
use Rattle.osm_runs.specs.JsonLine.{range_data}
use Rattle.osm_runs.proofs.json_values.ranges.Given as goal

abbrev pub invariant-loop-low : goal.invariant-loop-low
invariant-loop-low l = map view l.values.items ≡ map range_data (take l.low-index l.ranges)
