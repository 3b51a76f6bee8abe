-- Worlds before any event.
use Rattle.std.specs.Prelude.{◌≡◌, [], None, false}
use Rattle.osm_model.specs.Filter.{FilterValue}
use Rattle.osm_follow.specs.Follower.{new_follower_of}
use Rattle.osm_publisher.specs.Publisher.{new_publisher}
use Rattle.osm_world.specs.Alike.{AreAlike}
use Rattle.osm_world.specs.World.{WorldValue}

-- a new publisher, an empty archive, nothing saved, and a follower that isn't broken and can't be
-- told from a new one with that filter
pub record IsNew (filter : FilterValue) (w : WorldValue) : Type 0 where
  pub publisher : w.publisher ≡ new_publisher
  pub archive : w.archive ≡ []
  pub saved : w.saved ≡ None
  pub broken : w.follower.is_broken ≡ false
  pub follower : AreAlike w.follower (new_follower_of filter)
