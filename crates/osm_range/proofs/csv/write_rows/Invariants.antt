use Rattle.std.proofs.Common.{◌≡◌, ◌++◌, [], map}
use Rattle.std.specs.List.{flat_map}
use Rattle.osm_runs.specs.Csv.{csv_line}
use Rattle.osm_range.specs.Steps.Counting.{names_in}
use Rattle.osm_range.specs.Texts.{csv_head, csv_row}
use Rattle.osm_range.proofs.csv.write_rows.Given as goal

-- so far the rows are written, and the next one is empty
abbrev pub invariant-loop-combination : goal.invariant-loop-combination
invariant-loop-combination l = (l.rows ≡ l.fn.rows ++ (csv_line (csv_head l.table.columns)
    ++ flat_map (λ row. csv_line (csv_row l.table.columns (names_in l.table.names) row)) (map (λ e. (e.0.now, e.1.now)) l.yielded)))
    × (l.row ≡ [])
