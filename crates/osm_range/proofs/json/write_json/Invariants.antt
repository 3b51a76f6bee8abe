use Rattle.std.proofs.Common.{◌≡◌, ◌++◌, map}
use Rattle.std.specs.List.{flat_map}
use Rattle.osm_range.specs.Steps.Counting.{names_in}
use Rattle.osm_range.specs.Texts.{json_line}
use Rattle.osm_range.proofs.json.write_json.Given as goal

-- so far the rows are written
abbrev pub invariant-loop-combination : goal.invariant-loop-combination
invariant-loop-combination l = l.text.items
    ≡ l.initial.text.items ++ flat_map (json_line l.table.columns (names_in l.table.names)) (map (λ e. (e.0.now, e.1.now)) l.yielded)
