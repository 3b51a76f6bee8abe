use Rattle.std.proofs.Common.{◌≡◌, ◌≤◌, ◌++◌, take, vec_capacity}
use Rattle.std.specs.List.{flat_map}
use Rattle.osm_reading.specs.NumberLines.{count_line}
use Rattle.osm_reading.proofs.number_lines.write_count_lines.Given as goal

abbrev pub invariant-loop-number : goal.invariant-loop-number
invariant-loop-number l = record {
  text : l.text.items ≡ l.initial.text.items ++ flat_map count_line (take l.number-index l.counts);
  room : vec_capacity l.initial.text ≤ vec_capacity l.text;
}
