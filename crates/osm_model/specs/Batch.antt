-- A batch: the changes of one sequence, in their order.
use Rattle.std.specs.Prelude.{◌≤◌, List, length}
use Rattle.std.specs.List.{AllByRecursion}
use Rattle.osm_model.specs.Change.{ChangeValue, IsChange}
use Rattle.osm_model.specs.Limits.{max_changes}

-- a batch within the limits
pub record IsBatch (changes : List ChangeValue) : Type 0 where
  pub few : length changes ≤ max_changes
  pub each : AllByRecursion IsChange changes
