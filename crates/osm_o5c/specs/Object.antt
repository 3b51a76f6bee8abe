-- The fields of an object, in their order (OSM wiki, O5m: nodes, ways and relations).
use Rattle.std.specs.Prelude.{◌≡◌, ℕ, List, [], ◌∷◌, ◌++◌, length, ℤ, pos}
use Rattle.osm_model.specs.Change.{ChangeValue, IsChange}
use Rattle.osm_model.specs.Meta.{MetaValue}
use Rattle.osm_model.specs.declared.kind.Kind.{Kind}
use Rattle.osm_model.specs.declared.kind.Kind.TheVariants as kinds
use Rattle.osm_model.specs.declared.change.What.{What}
use Rattle.osm_model.specs.declared.change.What.TheVariants.{Node, Way, Relation, Deleted}
use Rattle.osm_model.specs.declared.lists.Member.{Member}
use Rattle.osm_model.specs.declared.lists.Tag.{Tag}
use Rattle.osm_o5c.specs.Number.{SpellsNumber}
use Rattle.osm_o5c.specs.Entries.{SpellsPair, SpellsSingle}
use Rattle.osm_o5c.specs.Context.{Context, SpellsSum, SpellsWrapped, members_of, with_members}
use Rattle.osm_o5c.specs.Context.{with_strings, kind_digit}
use Rattle.osm_o5c.specs.Many.{SpellsMany}
use Rattle.osm_o5c.specs.declared.strings.Entry.{Entry}

-- a user: the pair of the user id, spelled as an unsigned number, and the name
pub record SpellsUser (strings : List Entry) (bytes : List ℕ) (uid : ℕ) (name : List ℕ)
    (after : List Entry) : Type 0 where
  pub first : List ℕ
  pub pair : SpellsPair strings bytes first name after
  pub number : SpellsNumber first uid

-- version, time, changeset and user
pub record SpellsMeta (C : Context) (bytes : List ℕ) (m : MetaValue) (after : Context)
    : Type 0 where
  pub version_bytes : List ℕ
  pub time_bytes : List ℕ
  pub changeset_bytes : List ℕ
  pub user_bytes : List ℕ
  pub times : List ℤ
  pub changesets : List ℤ
  pub strings : List Entry
  pub whole : bytes ≡ version_bytes ++ time_bytes ++ changeset_bytes ++ user_bytes
  pub version : SpellsNumber version_bytes m.version
  pub time : SpellsSum C.times time_bytes (pos m.time) times
  pub changeset : SpellsSum C.changesets changeset_bytes (pos m.changeset) changesets
  pub user : SpellsUser C.strings user_bytes m.uid m.user strings
  pub context : after ≡ record C { times = times; changesets = changesets; strings = strings }

-- a tag: the pair of its key and its value
abbrev pub SpellsTag : List Entry → List ℕ → Tag → List Entry → Type 0
SpellsTag strings bytes t after = SpellsPair strings bytes t.key t.value after

-- tags up to the end
abbrev pub SpellsTags : List Entry → List ℕ → List Tag → List Entry → Type 0
SpellsTags = SpellsMany SpellsTag

-- references to nodes up to the end
abbrev pub SpellsRefs : List ℤ → List ℕ → List ℤ → List ℤ → Type 0
SpellsRefs = SpellsMany SpellsSum

-- a member: its id as a difference from the counter of its kind, then the digit of its kind and its
-- role as one string
pub record SpellsMember (C : Context) (bytes : List ℕ) (m : Member) (after : Context) : Type 0 where
  pub id_bytes : List ℕ
  pub role_bytes : List ℕ
  pub ids : List ℤ
  pub strings : List Entry
  pub whole : bytes ≡ id_bytes ++ role_bytes
  pub id : SpellsSum (members_of m.key.kind C) id_bytes m.key.id ids
  pub role : SpellsSingle C.strings role_bytes (kind_digit m.key.kind ∷ m.role) strings
  pub context : after ≡ with_strings (with_members m.key.kind C ids) strings

-- members up to the end
abbrev pub SpellsMembers : Context → List ℕ → List Member → Context → Type 0
SpellsMembers = SpellsMany SpellsMember

-- a node: longitude, latitude, tags
pub record SpellsNode (C : Context) (bytes : List ℕ) (lon lat : ℤ) (tags : List Tag)
    (after : Context) : Type 0 where
  pub lon_bytes : List ℕ
  pub lat_bytes : List ℕ
  pub tag_bytes : List ℕ
  pub lons : List ℤ
  pub lats : List ℤ
  pub strings : List Entry
  pub whole : bytes ≡ lon_bytes ++ lat_bytes ++ tag_bytes
  pub longitude : SpellsWrapped C.lons lon_bytes lon lons
  pub latitude : SpellsWrapped C.lats lat_bytes lat lats
  pub tags_are : SpellsTags C.strings tag_bytes tags strings
  pub context : after ≡ record C { lons = lons; lats = lats; strings = strings }

-- a way: the length of the reference part, the references, tags
pub record SpellsWay (C : Context) (bytes : List ℕ) (refs : List ℤ) (tags : List Tag)
    (after : Context) : Type 0 where
  pub length_bytes : List ℕ
  pub part : List ℕ
  pub tag_bytes : List ℕ
  pub way_nodes : List ℤ
  pub strings : List Entry
  pub whole : bytes ≡ length_bytes ++ part ++ tag_bytes
  pub part_length : SpellsNumber length_bytes (length part)
  pub refs_are : SpellsRefs C.way_nodes part refs way_nodes
  pub tags_are : SpellsTags C.strings tag_bytes tags strings
  pub context : after ≡ record C { way_nodes = way_nodes; strings = strings }

-- a relation: the length of the reference part, the members, tags
pub record SpellsRelation (C : Context) (bytes : List ℕ) (members : List Member) (tags : List Tag)
    (after : Context) : Type 0 where
  pub length_bytes : List ℕ
  pub part : List ℕ
  pub tag_bytes : List ℕ
  pub then : Context
  pub strings : List Entry
  pub whole : bytes ≡ length_bytes ++ part ++ tag_bytes
  pub part_length : SpellsNumber length_bytes (length part)
  pub members_are : SpellsMembers C part members then
  pub tags_are : SpellsTags then.strings tag_bytes tags strings
  pub context : after ≡ with_strings then strings

-- what an object of this kind is; no bytes if it is deleted
abbrev pub SpellsWhat : Kind → Context → List ℕ → What → Context → Type 0
SpellsWhat kind C bytes (Node lon lat tags) after =
    (kind ≡ kinds.Node) × SpellsNode C bytes lon lat tags after
SpellsWhat kind C bytes (Way refs tags) after =
    (kind ≡ kinds.Way) × SpellsWay C bytes refs tags after
SpellsWhat kind C bytes (Relation members tags) after =
    (kind ≡ kinds.Relation) × SpellsRelation C bytes members tags after
SpellsWhat kind C bytes Deleted after = (bytes ≡ []) × (after ≡ C)

-- a change within the limits: id, metadata, and what the object is
pub record SpellsObject (C : Context) (bytes : List ℕ) (c : ChangeValue) (after : Context)
    : Type 0 where
  pub id_bytes : List ℕ
  pub meta_bytes : List ℕ
  pub what_bytes : List ℕ
  pub ids : List ℤ
  pub then : Context
  pub whole : bytes ≡ id_bytes ++ meta_bytes ++ what_bytes
  pub id : SpellsSum C.ids id_bytes c.key.id ids
  pub meta : SpellsMeta (record C { ids = ids }) meta_bytes c.meta then
  pub what : SpellsWhat c.key.kind then what_bytes c.what after
  pub limits : IsChange c
