-- What is put together before it is appended.
use Rattle.std.specs.Prelude.{ℕ, Bool, true, false, List, ◌∷◌, ◌++◌, ℤ, codes}
use Rattle.osm_model.specs.CivilTime.{time_text}
use Rattle.osm_model.specs.Meta.{MetaValue}
use Rattle.osm_model.specs.declared.change.What.{What}
use Rattle.osm_model.specs.declared.change.What.TheVariants as whats
use Rattle.osm_model.specs.declared.kind.Key.{Key}
use Rattle.osm_model.specs.declared.kind.Kind.{Kind}
use Rattle.osm_model.specs.declared.kind.Kind.TheVariants.{Node, Way, Relation}
use Rattle.osm_opl.specs.Written.{coordinate_field, escaped_text, items_text, key_text, meta_text}
use Rattle.osm_opl.specs.Written.{number_field, refs_field, tag_text, visible_text}
use Rattle.osm_opl.specs.Written.{members_field, more_items}

-- ` tTIME iUID u`
abbrev pub user_start : MetaValue → List ℕ
user_start m = (codes " t" ++ time_text m.time) ++ number_field (codes " i") m.uid ++ codes " u"

-- a line up to its tags
abbrev pub line_start : Key → Bool → MetaValue → List ℕ
line_start key is_visible m = (key_text key ++ meta_text (visible_text is_visible) m) ++ codes " T"

-- the items that are left: all of a list, or those after the first, each after a comma
abbrev pub items_left : {X : Type 0} → (X → List ℕ) → Bool → List X → List ℕ
items_left text true xs = items_text text xs
items_left text false xs = more_items text xs

-- `KEY=VALUE`
abbrev pub pair_text : List ℕ → List ℕ → List ℕ
pair_text key value = escaped_text key ++ 61 ∷ escaped_text value

-- `nID@ROLE`, `wID@ROLE` or `rID@ROLE`
abbrev pub role_text : Key → List ℕ → List ℕ
role_text key role = key_text key ++ 64 ∷ escaped_text role

-- ` xLONGITUDE yLATITUDE`
abbrev pub location_text : ℤ → ℤ → List ℕ
location_text lon lat = coordinate_field (codes " x") lon ++ coordinate_field (codes " y") lat

-- the line of a node without tags
abbrev pub node_text : Key → MetaValue → ℤ → ℤ → List ℕ
node_text key m lon lat = line_start key true m ++ location_text lon lat

-- what follows the start of a line
abbrev pub rest_text : Kind → What → List ℕ
rest_text kind (whats.Node lon lat tags) = items_text tag_text tags ++ location_text lon lat
rest_text kind (whats.Way refs tags) = items_text tag_text tags ++ refs_field refs
rest_text kind (whats.Relation members tags) = items_text tag_text tags ++ members_field members
rest_text Node whats.Deleted = codes " x y"
rest_text Way whats.Deleted = codes " N"
rest_text Relation whats.Deleted = codes " M"
