-- What takes the changes of numbers holds what sequences come to.
use Rattle.std.specs.Prelude.{ℕ, ◌<◌, ◌≤◌, List, length}
use Rattle.std.specs.List.{AllByRecursion}
use Rattle.osm_model.specs.Batch.{IsBatch}
use Rattle.osm_model.specs.Change.{ChangeValue}
use Rattle.osm_model.specs.Limits.{IsPositive, max_sequence}
use Rattle.osm_publisher.specs.Published.{PublishedValue}

-- the changes of a sequence are within the limits
abbrev pub HasBatch : PublishedValue → Type 0
HasBatch p = IsBatch p.changes

-- a taker holds what some sequences come to: fewer than a folder may have, and the changes of each
-- are within the limits
pub record IsHolding {T : Type 0} (holds : T → List PublishedValue → Type 0) (taker : T)
    : Type 0 where
  pub before : List PublishedValue
  pub held : holds taker before
  pub few : length before < max_sequence
  pub each : AllByRecursion HasBatch before

-- such a taker is given one more sequence, which is within the limits
pub record IsTaking {T : Type 0} (holds : T → List PublishedValue → Type 0) (taker : T)
    (number time : ℕ) (changes : List ChangeValue) : Type 0 where
  pub holding : IsHolding holds taker
  pub limit : number ≤ max_sequence
  pub positive : IsPositive time
  pub batch : IsBatch changes
