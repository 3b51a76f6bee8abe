-- A world: a publisher, the texts of what it published, a follower, and the text saved last.
use Rattle.std.specs.Prelude.{ℕ, List, [], Option, None}
use Rattle.osm_model.specs.Filter.{FilterValue, everything}
use Rattle.osm_follow.specs.Follower.{FollowerValue, new_follower_of}
use Rattle.osm_publisher.specs.Published.{PublishedTexts}
use Rattle.osm_publisher.specs.Publisher.{PublisherValue, new_publisher}

pub record WorldValue : Type 0 where
  pub publisher : PublisherValue
  pub archive : List PublishedTexts
  pub follower : FollowerValue
  pub saved : Option (List ℕ)

-- the world before any event, whose follower keeps what the filter keeps
abbrev pub new_world_of : FilterValue → WorldValue
new_world_of filter = record {
  publisher = new_publisher;
  archive = [];
  follower = new_follower_of filter;
  saved = None;
}

-- the one that keeps every object
abbrev pub new_world : WorldValue
new_world = new_world_of everything
