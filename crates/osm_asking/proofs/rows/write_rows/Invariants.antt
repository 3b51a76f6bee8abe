use Rattle.std.proofs.Common.{◌≡◌, ◌++◌, ◌∷◌, [], take}
use Rattle.std.specs.Prelude.{codes}
use Rattle.std.specs.List.{flat_map}
use Rattle.osm_runs.specs.Csv.{csv_line}
use Rattle.osm_asking.specs.Counts.{name_of, row_line}
use Rattle.osm_asking.proofs.rows.write_rows.Given as goal

-- so far the rows are written, and the next one is empty
abbrev pub invariant-loop-id : goal.invariant-loop-id
invariant-loop-id l = (l.rows ≡ l.fn.rows
    ++ (csv_line (name_of l.fn.by ∷ codes "count" ∷ []) ++ flat_map row_line (take l.id-index l.counts))) × (l.row ≡ [])
