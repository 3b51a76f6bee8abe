-- The definitions on examples: what changes leave at a key, and what is laid over objects and added to counts.
use Rattle.std.proofs.Common.{◌≡◌, refl, true, false}
use Rattle.std.specs.Prelude.{ℤ, pos, List, [], ◌∷◌, Option, Some, None, codes}
use Rattle.std.specs.Option.{option_map}
use Rattle.osm_model.specs.Change.{ChangeValue}
use Rattle.osm_model.specs.Content.{last_of}
use Rattle.osm_model.specs.Filter.{FilterValue, keeps, left_by}
use Rattle.osm_model.specs.Meta.{MetaValue}
use Rattle.osm_model.specs.declared.change.What.{What}
use Rattle.osm_model.specs.declared.change.What.TheVariants as whats
use Rattle.osm_model.specs.declared.kind.Kind.{Kind}
use Rattle.osm_model.specs.declared.kind.Kind.TheVariants.{Node, Way}
use Rattle.osm_model.specs.declared.kind.Key.{Key}
use Rattle.osm_model.specs.declared.lists.Tag.{Tag}
use Rattle.osm_net.specs.Laid.{added, added_one, laid_one, laid_over}
use Rattle.osm_net.specs.Net.{NetEntry}

-- ---- what is left at a key, under the filter of the ways with a tag `highway`

ways_with_highway : FilterValue
ways_with_highway = record { nodes = false; ways = true; relations = false; keys = codes "highway" ∷ [] }

abbrev key_of : Kind → ℤ → Key
key_of kind id = record { kind = kind; id = id }

abbrev changed : Kind → ℤ → What → ChangeValue
changed kind id what =
    let meta : MetaValue = record { version = 1; time = 1704067200; changeset = 7; uid = 5; user = codes "ann" } in
    record { key = key_of kind id; meta = meta; what = what }

highway : Tag
highway = record { key = codes "highway"; value = codes "path" }

abbrev left_at : List ChangeValue → Key → Option (Option ChangeValue)
left_at changes k = option_map (left_by ways_with_highway) (last_of changes k)

abbrev path : ChangeValue
path = changed Way (pos 10) (whats.Way (pos 1 ∷ pos 2 ∷ []) (highway ∷ []))

abbrev longer_path : ChangeValue
longer_path = changed Way (pos 10) (whats.Way (pos 1 ∷ pos 2 ∷ pos 3 ∷ []) (highway ∷ []))

abbrev no_path : ChangeValue
no_path = changed Way (pos 10) (whats.Way (pos 1 ∷ pos 2 ∷ []) [])

abbrev deleted : ChangeValue
deleted = changed Way (pos 10) whats.Deleted

-- a change that is kept, and the last of two
kept : left_at (path ∷ []) (key_of Way (pos 10)) ≡ Some (Some path)
unfolding keeps ways_with_highway highway
kept = refl

last_kept : left_at (path ∷ longer_path ∷ []) (key_of Way (pos 10)) ≡ Some (Some longer_path)
unfolding keeps ways_with_highway highway
last_kept = refl

-- one that is deleted, one that no longer matches, and one that never did: the object goes away if it is there
gone : left_at (path ∷ deleted ∷ []) (key_of Way (pos 10)) ≡ Some None
unfolding keeps ways_with_highway highway
gone = refl

no_longer : left_at (path ∷ no_path ∷ []) (key_of Way (pos 10)) ≡ Some None
unfolding keeps ways_with_highway highway
no_longer = refl

never : left_at (no_path ∷ []) (key_of Way (pos 10)) ≡ Some None
unfolding keeps ways_with_highway highway
never = refl

-- one that is created again
again : left_at (deleted ∷ path ∷ []) (key_of Way (pos 10)) ≡ Some (Some path)
unfolding keeps ways_with_highway highway
again = refl

-- of an object that doesn't change nothing is known: neither of a node with the same id nor of another way
unknown_node : left_at (path ∷ []) (key_of Node (pos 10)) ≡ None
unknown_node = refl

unknown_way : left_at (path ∷ []) (key_of Way (pos 11)) ≡ None
unknown_way = refl

-- ---- laid over the nodes 10 and 20

abbrev node : ℤ → ℤ → ChangeValue
node id lon = changed Node id (whats.Node lon (pos 0) [])

abbrev nodes : List ChangeValue
nodes = node (pos 10) (pos 1) ∷ node (pos 20) (pos 2) ∷ []

abbrev moved : ℤ → List NetEntry
moved id = (key_of Node id, Some (node id (pos 9))) ∷ []

abbrev removed : ℤ → List NetEntry
removed id = (key_of Node id, None) ∷ []

-- an entry below all objects, between them, and above them
below : laid_over (moved (pos 5)) nodes ≡ node (pos 5) (pos 9) ∷ node (pos 10) (pos 1) ∷ node (pos 20) (pos 2) ∷ []
unfolding laid_over laid_one
below = refl

between : laid_over (moved (pos 15)) nodes ≡ node (pos 10) (pos 1) ∷ node (pos 15) (pos 9) ∷ node (pos 20) (pos 2) ∷ []
unfolding laid_over laid_one
between = refl

above : laid_over (moved (pos 25)) nodes ≡ node (pos 10) (pos 1) ∷ node (pos 20) (pos 2) ∷ node (pos 25) (pos 9) ∷ []
unfolding laid_over laid_one
above = refl

-- at an object: it is replaced or taken away
replaced : laid_over (moved (pos 10)) nodes ≡ node (pos 10) (pos 9) ∷ node (pos 20) (pos 2) ∷ []
unfolding laid_over laid_one
replaced = refl

taken_away : laid_over (removed (pos 10)) nodes ≡ node (pos 20) (pos 2) ∷ []
unfolding laid_over laid_one
taken_away = refl

-- a removal of what isn't there changes nothing, before, between and after the objects
not_there : laid_over (removed (pos 15)) nodes ≡ nodes
unfolding laid_over laid_one
not_there = refl

not_there_either : laid_over (removed (pos 25)) nodes ≡ nodes
unfolding laid_over laid_one
not_there_either = refl

-- a way comes after all nodes, whatever its id
way_last : laid_over ((key_of Way (pos 10), Some path) ∷ []) nodes ≡ node (pos 10) (pos 1) ∷ node (pos 20) (pos 2) ∷ path ∷ []
unfolding laid_over laid_one
way_last = refl

-- several entries
several : laid_over ((key_of Node (pos 10), None) ∷ moved (pos 20)) nodes ≡ node (pos 20) (pos 9) ∷ []
unfolding laid_over laid_one
several = refl

-- ---- counts: of equal numbers the sum, all others as they are

equal_numbers : added ((5, 2) ∷ []) ((5, 3) ∷ (7, 1) ∷ []) ≡ (5, 5) ∷ (7, 1) ∷ []
unfolding added added_one
equal_numbers = refl

lower_number : added ((4, 2) ∷ []) ((5, 3) ∷ (7, 1) ∷ []) ≡ (4, 2) ∷ (5, 3) ∷ (7, 1) ∷ []
unfolding added added_one
lower_number = refl

number_between : added ((6, 2) ∷ []) ((5, 3) ∷ (7, 1) ∷ []) ≡ (5, 3) ∷ (6, 2) ∷ (7, 1) ∷ []
unfolding added added_one
number_between = refl

greater_number : added ((8, 2) ∷ []) ((5, 3) ∷ (7, 1) ∷ []) ≡ (5, 3) ∷ (7, 1) ∷ (8, 2) ∷ []
unfolding added added_one
greater_number = refl

several_numbers : added ((5, 1) ∷ (6, 1) ∷ (7, 1) ∷ []) ((5, 3) ∷ (7, 1) ∷ []) ≡ (5, 4) ∷ (6, 1) ∷ (7, 2) ∷ []
unfolding added added_one
several_numbers = refl
