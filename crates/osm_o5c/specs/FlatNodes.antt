-- Nodes that are read without being built.
use Rattle.std.specs.Prelude.{◌≡◌, ℕ, pos, List, Option, Some}
use Rattle.osm_model.specs.Change.{ChangeValue, IsChange}
use Rattle.osm_model.specs.Flat.{flat_node}
use Rattle.osm_model.specs.declared.flat.FlatNode.{FlatNode}
use Rattle.osm_model.specs.declared.lists.Tag.{Tag}
use Rattle.osm_reading.specs.Answers.{and_then}
use Rattle.osm_o5c.specs.ObjectReading.{tags_at}
use Rattle.osm_o5c.specs.declared.reader.Reader.{Reader}
use Rattle.osm_o5c.specs.declared.strings.Entry.{Entry}

-- the reader after a node, whose tags leave this table
abbrev pub after_node : Reader → FlatNode → List Entry → Reader
after_node reader n strings = record {
  counters = record reader.counters {
    id = n.id;
    time = pos n.meta.time;
    changeset = pos n.meta.changeset;
    lon = n.lon;
    lat = n.lat;
  };
  strings = strings;
}

-- the node with the tags that these bytes are, and the reader after it
abbrev pub node_with : Reader → FlatNode → List ℕ → Option (ChangeValue × Reader)
node_with reader n tags =
    and_then (tags_at reader.strings tags) (λ t. Some (flat_node n t.0, after_node reader n t.1))

-- whatever its tags are, if they are any, the node is within the limits
abbrev pub IsRead : Reader → FlatNode → List ℕ → Type 0
IsRead reader n tags = (t : List Tag × List Entry) → tags_at reader.strings tags ≡ Some t
    → IsChange (flat_node n t.0)
