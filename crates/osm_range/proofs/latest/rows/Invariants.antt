use Rattle.std.proofs.Common.{◌≡◌, ◌++◌, map}
use Rattle.std.specs.Map.{values_of}
use Rattle.osm_mirror.specs.Entries.{HaveOwnKeys}
use Rattle.osm_range.specs.Steps.Rising.{changes_in_rows, entry_of}
use Rattle.osm_range.proofs.latest.rows.Given as goal

abbrev pub invariant-loop-change : goal.invariant-loop-change
invariant-loop-change l = record {
  changes : changes_in_rows l.rows.items ++ l.change-iterator ≡ values_of l.changes.entries;
  own : HaveOwnKeys (map entry_of l.rows.items);
}
