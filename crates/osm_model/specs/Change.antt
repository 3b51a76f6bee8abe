-- A change of an object, as contracts see it.
use Rattle.std.specs.Prelude.{◌≡◌, ◌≤◌, List, length, ℤ}
use Rattle.std.specs.List.{AllByRecursion}
use Rattle.osm_model.specs.Limits.{IsId, IsLocation, max_tags, max_refs}
use Rattle.osm_model.specs.Meta.{MetaValue, IsMeta}
use Rattle.osm_model.specs.declared.kind.Key.{Key}
use Rattle.osm_model.specs.declared.kind.Kind.{Kind}
use Rattle.osm_model.specs.declared.kind.Kind.TheVariants as kinds
use Rattle.osm_model.specs.declared.change.What.{What}
use Rattle.osm_model.specs.declared.change.What.TheVariants.{Node, Way, Relation, Deleted}
use Rattle.osm_model.specs.declared.lists.Member.{Member}
use Rattle.osm_model.specs.declared.lists.Tag.{Tag}
use Rattle.osm_model.specs.Lists.{IsTag, IsRole}

-- the object's key, who changed it and when, and what it is from then on
pub record ChangeValue : Type 0 where
  pub key : Key
  pub meta : MetaValue
  pub what : What

-- a member's id is within the limits
abbrev pub HasMemberId : Member → Type 0
HasMemberId m = IsId m.key.id

-- tags within the limits
pub record AreTags (tags : List Tag) : Type 0 where
  pub few : length tags ≤ max_tags
  pub each : AllByRecursion IsTag tags

-- the nodes of a way, within the limits
pub record AreRefs (refs : List ℤ) : Type 0 where
  pub few : length refs ≤ max_refs
  pub each : AllByRecursion IsId refs

-- the members of a relation, within the limits
pub record AreMembers (members : List Member) : Type 0 where
  pub few : length members ≤ max_refs
  pub ids : AllByRecursion HasMemberId members
  pub roles : AllByRecursion IsRole members

-- what the object is, of the key's kind and within the limits
abbrev pub IsWhat : Kind → What → Type 0
IsWhat kind (Node lon lat tags) = (kind ≡ kinds.Node) × IsLocation lon lat × AreTags tags
IsWhat kind (Way refs tags) = (kind ≡ kinds.Way) × AreRefs refs × AreTags tags
IsWhat kind (Relation members tags) = (kind ≡ kinds.Relation) × AreMembers members × AreTags tags
IsWhat kind Deleted = Unit {0}

-- a change within the limits
pub record IsChange (c : ChangeValue) : Type 0 where
  pub id : IsId c.key.id
  pub meta : IsMeta c.meta
  pub what : IsWhat c.key.kind c.what
