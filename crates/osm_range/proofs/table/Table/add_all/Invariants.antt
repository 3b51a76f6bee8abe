use Rattle.std.proofs.Common.{◌≡◌, ◌++◌, List, take}
use Rattle.osm_model.specs.Change.{ChangeValue}
use Rattle.osm_range.specs.Steps.Counting.{Counts}
use Rattle.osm_range.proofs.table.Table.add_all.Given as goal

-- so far the changes are counted
abbrev pub invariant-loop-change : goal.invariant-loop-change
invariant-loop-change l = (l.self.columns ≡ l.initial.self.columns)
    × ((before : List ChangeValue) → Counts before l.initial.self → Counts (before ++ take l.change-index l.changes) l.self)
