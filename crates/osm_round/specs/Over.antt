-- What the follower of published sequences may have.
use Rattle.std.specs.Prelude.{◌<◌, List, length}
use Rattle.osm_model.specs.Filter.{FilterValue}
use Rattle.osm_save.specs.declared.save.Saved.{Saved}
use Rattle.osm_publisher.specs.Published.{PublishedValue}
use Rattle.osm_runs.specs.Following.{IsInStep}

-- a follower of the published sequences has more objects than a save can have
pub record HasMany (published : List PublishedValue) (given : FilterValue) : Type 0 where
  pub value : Saved
  pub in_step : IsInStep published given value
  pub many : 999999999999999999 < length value.mirror.objects
