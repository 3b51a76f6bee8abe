-- What the follower that is given the archived sequences leaves.
use Rattle.std.specs.Prelude.{◌≡◌, ℕ, List}
use Rattle.osm_model.specs.Change.{ChangeValue}
use Rattle.osm_model.specs.Filter.{FilterValue}
use Rattle.osm_follow.specs.Follower.{FollowerValue}
use Rattle.osm_publisher.specs.Published.{PublishedTexts}
use Rattle.osm_world.specs.Step.{IsFed}

-- the objects of a follower with that filter that was given sequences 1 to k
pub record AreLeft (filter : FilterValue) (archive : List PublishedTexts) (k : ℕ)
    (objects : List ChangeValue) : Type 0 where
  pub giver : FollowerValue
  pub fed : IsFed filter archive k giver
  pub objects_are : objects ≡ giver.mirror.objects
