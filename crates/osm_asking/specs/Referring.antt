-- Keys that were asked for or referred to.
use Rattle.std.specs.Prelude.{◌≡◌, List, Bool, true, false, Option, Some, None, ◌&&◌, not}
use Rattle.std.specs.BTreeMap.{is_at}
use Rattle.std.specs.List.{list_any}
use Rattle.std.specs.List.Sorted.{IsStrictlySortedBy}
use Rattle.std.specs.Map.{lookup}
use Rattle.osm_model.specs.Change.{ChangeValue}
use Rattle.osm_model.specs.KeyOrder.{key_cmp, same_key}
use Rattle.osm_model.specs.declared.change.What.{What}
use Rattle.osm_model.specs.declared.change.What.TheVariants.{Node, Way, Relation, Deleted}
use Rattle.osm_model.specs.declared.kind.Key.{Key}
use Rattle.osm_model.specs.declared.kind.Kind.TheVariants as kinds
use Rattle.std.specs.Prelude.{ℤ}

-- the key of a node
abbrev pub node_key : ℤ → Key
node_key id = record { kind = kinds.Node; id = id }

-- a way refers to its nodes, and a relation to its members
abbrev pub refers_to : What → Key → Bool
refers_to (Node lon lat tags) k = false
refers_to (Way refs tags) k = list_any (λ id. same_key (node_key id) k) refs
refers_to (Relation members tags) k = list_any (λ m. same_key m.key k) members
refers_to Deleted k = false

-- what is known of a key: false if it was asked for, true if it was only referred to
abbrev pub noted_at : List (Key × Bool) → Key → Option Bool
noted_at noted k = lookup (is_at (key_cmp k)) noted

-- what is known of a key once it may have been referred to
abbrev pub also : Bool → Option Bool → Option Bool
also is_referred (Some left) = Some left
also true None = Some true
also false None = None

-- what is known of a key that was asked for or referred to
abbrev pub known_of : Bool → Bool → Option Bool
known_of true is_referred = Some false
known_of false true = Some true
known_of false false = None

-- the key is among those that were asked for
abbrev pub is_asked : List Key → Key → Bool
is_asked asked k = list_any (λ q. same_key q k) asked

-- one of the objects refers to the key
abbrev pub are_referring : List ChangeValue → Key → Bool
are_referring printed k = list_any (λ c. refers_to c.what k) printed

-- of a key it's known whether it was asked for, and if not, whether one of the objects refers to it
abbrev pub KnowsOf : List (Key × Bool) → List Key → List ChangeValue → Type 0
KnowsOf noted asked printed =
    (k : Key) → noted_at noted k ≡ known_of (is_asked asked k) (are_referring printed k)

-- the key was only referred to
abbrev pub is_left : Option Bool → Bool
is_left None = false
is_left (Some left) = left

-- the keys that were only referred to, each once, rising
pub record AreLeft (noted : List (Key × Bool)) (left : List Key) : Type 0 where
  pub rising : IsStrictlySortedBy key_cmp left
  pub each : (k : Key) → list_any (λ q. same_key q k) left ≡ is_left (noted_at noted k)

-- the keys that the objects refer to and that weren't asked for, each once, rising
pub record AreReferred (asked : List Key) (printed : List ChangeValue) (left : List Key) : Type 0
  where
    pub rising : IsStrictlySortedBy key_cmp left
    pub each : (k : Key) → list_any (λ q. same_key q k) left
        ≡ (not (is_asked asked k) && are_referring printed k)
