-- A filter: which objects of a mirror an extract keeps, by their kind and by the keys of their tags
-- (Osmium manual, osmium-tags-filter: `w/highway` names the ways with a tag of that key, whatever
-- its value; that the keys are listed once each and in order is our choice).
use Rattle.std.specs.Prelude.{◌≡◌, ℕ, ◌==◌, ◌≤◌, Bool, true, false, ◌&&◌, ◌||◌, List, [], length}
use Rattle.std.specs.Prelude.{Option, Some, None, if◌then◌else◌}
use Rattle.std.specs.List.{AllByRecursion, list_any}
use Rattle.std.specs.List.Sorted.{IsStrictlySortedBy}
use Rattle.std.specs.Str.{bytes_eq}
use Rattle.osm_model.specs.Change.{ChangeValue}
use Rattle.osm_model.specs.Content.{Leaving, object_after}
use Rattle.osm_model.specs.Limits.{max_keys}
use Rattle.osm_model.specs.Text.{IsText, bytes_cmp}
use Rattle.osm_model.specs.declared.change.What.{What}
use Rattle.osm_model.specs.declared.change.What.TheVariants as whats
use Rattle.osm_model.specs.declared.kind.Key.{Key}
use Rattle.osm_model.specs.declared.kind.Kind.{Kind}
use Rattle.osm_model.specs.declared.kind.Kind.TheVariants.{Node, Way, Relation}
use Rattle.osm_model.specs.declared.lists.Tag.{Tag}

-- whether nodes, ways and relations are kept, and the keys of which an object must have one; if
-- there are none, it needs none
pub record FilterValue : Type 0 where
  pub nodes : Bool
  pub ways : Bool
  pub relations : Bool
  pub keys : List (List ℕ)

-- some kind is chosen
abbrev pub has_kind : Bool → Bool → Bool → Bool
has_kind nodes ways relations = nodes || ways || relations

-- each key is below those after it by its bytes, so no key comes twice
abbrev pub AreRising : List (List ℕ) → Type 0
AreRising keys = IsStrictlySortedBy bytes_cmp keys

-- a filter of some kind, with at most 100 keys, each once and in order
pub record IsFilter (f : FilterValue) : Type 0 where
  pub kind : has_kind f.nodes f.ways f.relations ≡ true
  pub few : length f.keys ≤ max_keys
  pub texts : AllByRecursion IsText f.keys
  pub rising : AreRising f.keys

-- the filter of all kinds without keys
abbrev pub everything : FilterValue
everything = record { nodes = true; ways = true; relations = true; keys = [] }

-- whether the filter chooses a kind
abbrev pub chooses : FilterValue → Kind → Bool
chooses f Node = f.nodes
chooses f Way = f.ways
chooses f Relation = f.relations

-- the tags of an object
abbrev pub tags_of : What → List Tag
tags_of (whats.Node lon lat tags) = tags
tags_of (whats.Way refs tags) = tags
tags_of (whats.Relation members tags) = tags
tags_of whats.Deleted = []

-- whether a text is one of the keys
abbrev pub is_among : List (List ℕ) → List ℕ → Bool
is_among keys text = list_any (λ key. bytes_eq key text) keys

-- whether there are no keys, or one of the tags has one of them; values aren't looked at
abbrev pub keeps_tags : List (List ℕ) → List Tag → Bool
keeps_tags keys tags = length keys == 0 || list_any (λ t. is_among keys t.key) tags

-- whether an object is kept, if there is one
abbrev pub keeps_object : FilterValue → Option ChangeValue → Bool
keeps_object f None = false
keeps_object f (Some c) = chooses f c.key.kind && keeps_tags f.keys (tags_of c.what)

-- whether what a change leaves of its object is kept: a deletion leaves nothing
unfoldable pub keeps : FilterValue → ChangeValue → Bool
keeps f c = keeps_object f (object_after c)

-- an object if the filter keeps it, otherwise none
abbrev pub kept_object : FilterValue → Option ChangeValue → Option ChangeValue
kept_object f None = None
kept_object f (Some c) = if keeps f c then Some c else None

-- those of the objects that the filter keeps
abbrev pub kept : FilterValue → (Key → Option ChangeValue) → Key → Option ChangeValue
kept f objects k = kept_object f (objects k)

-- what the filter keeps of what a change leaves: a change that it doesn't keep takes its object
-- away, as a deletion does
abbrev pub left_by : FilterValue → Leaving
left_by f c = kept_object f (object_after c)

-- the filter keeps each of the objects
abbrev pub AreKept : FilterValue → List ChangeValue → Type 0
AreKept f objects = AllByRecursion (λ c. keeps f c ≡ true) objects
