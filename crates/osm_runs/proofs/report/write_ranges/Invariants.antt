use Rattle.std.proofs.Common.{◌≡◌, ◌++◌, take}
use Rattle.std.specs.List.{flat_map}
use Rattle.osm_reading.specs.NumberLines.{applied_line}
use Rattle.osm_runs.proofs.report.write_ranges.Given as goal

abbrev pub invariant-loop-low : goal.invariant-loop-low
invariant-loop-low l = l.text.items ≡ l.initial.text.items ++ flat_map applied_line (take l.low-index l.applied)
