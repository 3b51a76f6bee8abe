-- What of an object is on the heap.
use Rattle.std.specs.Prelude.{◌<◌, ◌⊎◌, length}
use Rattle.osm_model.specs.declared.change.What.{What}
use Rattle.osm_model.specs.declared.change.What.TheVariants.{Node, Way, Relation, Deleted}

-- the object has a tag, a node or a member
abbrev pub HasParts : What → Type 0
HasParts (Node lon lat tags) = 0 < length tags
HasParts (Way refs tags) = (0 < length refs) ⊎ (0 < length tags)
HasParts (Relation members tags) = (0 < length members) ⊎ (0 < length tags)
HasParts Deleted = ⊥
