-- An object as JSON (RFC 8259), with the names that the OSM API has for its parts (OSM wiki, API
-- v0.6). The members have a fixed order, and no value is left out.
use Rattle.std.specs.Prelude.{ℕ, ℤ, List, [], ◌++◌, codes, decimal}
use Rattle.std.specs.Fmt.{signed_decimal}
use Rattle.osm_model.specs.Change.{ChangeValue}
use Rattle.osm_model.specs.CivilTime.{time_text}
use Rattle.osm_model.specs.Meta.{MetaValue}
use Rattle.osm_model.specs.declared.change.What.{What}
use Rattle.osm_model.specs.declared.change.What.TheVariants as whats
use Rattle.osm_model.specs.declared.kind.Key.{Key}
use Rattle.osm_model.specs.declared.kind.Kind.{Kind}
use Rattle.osm_model.specs.declared.kind.Kind.TheVariants.{Node, Way, Relation}
use Rattle.osm_model.specs.declared.lists.Member.{Member}
use Rattle.osm_model.specs.declared.lists.Tag.{Tag}
use Rattle.osm_opl.specs.Written.{coordinate_text, items_text}
use Rattle.serde_json.specs.Data.{string}
use Rattle.serde_json.specs.Written.{compact_text}

-- a text in quotes, with its escapes
abbrev pub text_json : List ℕ → List ℕ
text_json text = compact_text (string text)

abbrev pub kind_json : Kind → List ℕ
kind_json Node = codes "\"node\""
kind_json Way = codes "\"way\""
kind_json Relation = codes "\"relation\""

-- `{"type":KIND,NAME:ID`
unfoldable pub key_json : List ℕ → Key → List ℕ
key_json name key =
    codes "{\"type\":" ++ (kind_json key.kind ++ (name ++ signed_decimal key.id))

-- `,"lat":LATITUDE,"lon":LONGITUDE` of a node, in degrees
unfoldable pub location_json : What → List ℕ
location_json (whats.Node lon lat tags) =
    codes ",\"lat\":" ++ (coordinate_text lat ++ (codes ",\"lon\":" ++ coordinate_text lon))
location_json (whats.Way refs tags) = []
location_json (whats.Relation members tags) = []
location_json whats.Deleted = []

-- `,"timestamp":TIME`
unfoldable pub time_json : ℕ → List ℕ
time_json time = codes ",\"timestamp\":\"" ++ (time_text time ++ codes "\"")

-- a name and the number after it
abbrev pub number_json : List ℕ → ℕ → List ℕ
number_json name n = name ++ decimal n

-- `,"version":V,"changeset":C`
unfoldable pub version_json : MetaValue → List ℕ
version_json m =
    number_json (codes ",\"version\":") m.version
    ++ number_json (codes ",\"changeset\":") m.changeset

-- `,"user":NAME,"uid":I`
unfoldable pub user_json : MetaValue → List ℕ
user_json m =
    codes ",\"user\":" ++ (text_json m.user ++ (codes ",\"uid\":" ++ decimal m.uid))

-- the time, the version, the changeset and the user
unfoldable pub meta_json : MetaValue → List ℕ
meta_json m = time_json m.time ++ (version_json m ++ user_json m)

-- `,"nodes":[ID,..]`
abbrev pub nodes_json : List ℤ → List ℕ
nodes_json refs = codes ",\"nodes\":[" ++ (items_text signed_decimal refs ++ codes "]")

-- `,"role":ROLE}`
unfoldable pub role_json : List ℕ → List ℕ
role_json role = codes ",\"role\":" ++ (text_json role ++ codes "}")

-- `{"type":KIND,"ref":ID,"role":ROLE}`
unfoldable pub member_json : Member → List ℕ
member_json m = key_json (codes ",\"ref\":") m.key ++ role_json m.role

-- `,"members":[MEMBER,..]`
abbrev pub members_json : List Member → List ℕ
members_json members = codes ",\"members\":[" ++ (items_text member_json members ++ codes "]")

-- `KEY:VALUE`
abbrev pub tag_json : Tag → List ℕ
tag_json t = text_json t.key ++ (codes ":" ++ text_json t.value)

-- `,"tags":{TAG,..}`
abbrev pub tags_json : List Tag → List ℕ
tags_json tags = codes ",\"tags\":{" ++ (items_text tag_json tags ++ codes "}")

-- the nodes of a way or the members of a relation, and the tags
unfoldable pub lists_json : What → List ℕ
lists_json (whats.Node lon lat tags) = tags_json tags
lists_json (whats.Way refs tags) = nodes_json refs ++ tags_json tags
lists_json (whats.Relation members tags) = members_json members ++ tags_json tags
lists_json whats.Deleted = []

-- the object before its lists
unfoldable pub begin_json : ChangeValue → List ℕ
begin_json c =
    key_json (codes ",\"id\":") c.key ++ (location_json c.what ++ meta_json c.meta)

-- the object, without a line end
unfoldable pub object_json : ChangeValue → List ℕ
object_json c = begin_json c ++ (lists_json c.what ++ codes "}")
