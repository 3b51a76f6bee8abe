-- Nodes whose texts aren't owned.
use Rattle.std.specs.Prelude.{List}
use Rattle.osm_model.specs.Change.{ChangeValue}
use Rattle.osm_model.specs.Meta.{MetaValue}
use Rattle.osm_model.specs.declared.change.What.TheVariants.{Node}
use Rattle.osm_model.specs.declared.flat.FlatMeta.{FlatMeta}
use Rattle.osm_model.specs.declared.flat.FlatNode.{FlatNode}
use Rattle.osm_model.specs.declared.kind.Kind.TheVariants as kinds
use Rattle.osm_model.specs.declared.lists.Tag.{Tag}

-- the metadata that is meant
abbrev pub flat_meta : FlatMeta → MetaValue
flat_meta m = record {
  version = m.version;
  time = m.time;
  changeset = m.changeset;
  uid = m.uid;
  user = m.user.now;
}

-- the node that is meant, with these tags
abbrev pub flat_node : FlatNode → List Tag → ChangeValue
flat_node n tags = record {
  key = record { kind = kinds.Node; id = n.id };
  meta = flat_meta n.meta;
  what = Node n.lon n.lat tags;
}
