-- Who made a change, and when.
use Rattle.std.specs.Prelude.{ℕ, List}
use Rattle.osm_model.specs.Limits.{IsPositive}
use Rattle.osm_model.specs.Text.{IsText}

-- the metadata of a change; the time is in seconds since 1970-01-01T00:00:00Z
pub record MetaValue : Type 0 where
  pub version : ℕ
  pub time : ℕ
  pub changeset : ℕ
  pub uid : ℕ
  pub user : List ℕ

-- metadata within the limits
pub record IsMeta (m : MetaValue) : Type 0 where
  pub version : IsPositive m.version
  pub time : IsPositive m.time
  pub changeset : IsPositive m.changeset
  pub uid : IsPositive m.uid
  pub user : IsText m.user
