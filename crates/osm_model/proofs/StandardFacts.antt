-- The definitions at values that a person knows: the limits, the order of keys, and what a filter keeps.
use Rattle.std.proofs.Common.{◌≡◌, refl, true, false}
use Rattle.std.specs.Prelude.{ℕ, ◌-◌, ◌*◌, ◌^◌, ◌≤◌, ℤ, pos, negsuc, neg_ℤ, ◌≤ℤ◌, List, [], ◌∷◌, Some, length, Contains, ◌↔◌, codes}
use Rattle.std.specs.List.{AllByRecursion}
use Rattle.std.specs.List.Sorted.{IsStrictlySortedBy}
use Rattle.std.specs.Str.{IsUtf8}
use Rattle.std.specs.declared.cmp.Ordering.TheVariants.{Less}
use Rattle.osm_model.specs.Batch.{IsBatch}
use Rattle.osm_model.specs.Change.{AreMembers, AreRefs, AreTags, ChangeValue, HasMemberId, IsChange}
use Rattle.osm_model.specs.Content.{object_after}
use Rattle.osm_model.specs.Data.{IsData}
use Rattle.osm_model.specs.Filter.{AreRising, FilterValue, keeps}
use Rattle.osm_model.specs.KeyOrder.{key_cmp}
use Rattle.osm_model.specs.Limits.{IsId, IsLatitude, IsLongitude, max_file, max_keys, max_sequence}
use Rattle.osm_model.specs.Lists.{IsRole, IsTag}
use Rattle.osm_model.specs.Meta.{MetaValue}
use Rattle.osm_model.specs.Text.{IsText, bytes_cmp}
use Rattle.osm_model.specs.declared.change.What.{What}
use Rattle.osm_model.specs.declared.change.What.TheVariants as whats
use Rattle.osm_model.specs.declared.kind.Kind.{Kind}
use Rattle.osm_model.specs.declared.lists.Member.{Member}
use Rattle.osm_model.specs.declared.lists.Tag.{Tag}
use Rattle.osm_model.specs.declared.kind.Kind.TheVariants.{Node, Way, Relation}

-- a latitude is from -90 to 90 degrees, in units of 10^-7 degree
latitudes : (lat : ℤ) → IsLatitude lat ↔ ((neg_ℤ (pos (90 * 10 ^ 7)) ≤ℤ lat) × (lat ≤ℤ pos (90 * 10 ^ 7)))
latitudes lat = ((λ l. (l.low, l.high)), (λ p. record { low = p.0; high = p.1 }))

-- a longitude is from -180 to 180 degrees, in the same units
longitudes : (lon : ℤ) → IsLongitude lon ↔ ((neg_ℤ (pos (180 * 10 ^ 7)) ≤ℤ lon) × (lon ≤ℤ pos (180 * 10 ^ 7)))
longitudes lon = ((λ l. (l.low, l.high)), (λ p. record { low = p.0; high = p.1 }))

-- an id has up to 62 bits and a sign
ids : (id : ℤ) → IsId id ↔ ((neg_ℤ (pos (2 ^ 62 - 1)) ≤ℤ id) × (id ≤ℤ pos (2 ^ 62 - 1)))
ids id = ((λ i. (i.low, i.high)), (λ p. record { low = p.0; high = p.1 }))

-- a text has up to 1,020 bytes: 255 characters of four
texts : (bytes : List ℕ) → IsText bytes ↔ (IsUtf8 bytes × (¬ Contains bytes 0) × (length bytes ≤ 1020))
texts bytes = ((λ t. (t.utf8, t.no_nul, t.short)), (λ p. record { utf8 = p.0; no_nul = p.1; short = p.2 }))

-- an object has up to 5,000 tags
tags_of_objects : (tags : List Tag) → AreTags tags ↔ ((length tags ≤ 5000) × AllByRecursion IsTag tags)
tags_of_objects tags = ((λ t. (t.few, t.each)), (λ p. record { few = p.0; each = p.1 }))

-- a way has up to 32,000 nodes
nodes_of_ways : (refs : List ℤ) → AreRefs refs ↔ ((length refs ≤ 32000) × AllByRecursion IsId refs)
nodes_of_ways refs = ((λ r. (r.few, r.each)), (λ p. record { few = p.0; each = p.1 }))

-- a relation has up to 32,000 members
members_of_relations : (members : List Member) → AreMembers members
    ↔ ((length members ≤ 32000) × AllByRecursion HasMemberId members × AllByRecursion IsRole members)
members_of_relations members =
    ((λ m. (m.few, m.ids, m.roles)), (λ p. record { few = p.0; ids = p.1; roles = p.2 }))

-- a batch has up to 100,000 changes
changes_of_batches : (changes : List ChangeValue) → IsBatch changes
    ↔ ((length changes ≤ 100000) × AllByRecursion IsChange changes)
changes_of_batches changes = ((λ b. (b.few, b.each)), (λ p. record { few = p.0; each = p.1 }))

-- a data file has no limit on its number of objects: two of them are data exactly if both are objects that aren't
-- deleted and the first key comes before the second, so a key that stands twice is refused
two_of_data : (a b : ChangeValue) → IsData (a ∷ b ∷ [])
    ↔ (((IsChange a × IsChange b) × ((object_after a ≡ Some a) × (object_after b ≡ Some b))) × (key_cmp a.key b.key ≡ Less))
unfolding IsStrictlySortedBy
two_of_data a b = (
  (λ d. (((d.limits.0, d.limits.1.0), (d.left.0, d.left.1.0)), d.rising.0.0)),
  (λ p. record {
    limits = (p.0.0.0, (p.0.0.1, tt));
    left = (p.0.1.0, (p.0.1.1, tt));
    rising = ((p.1, tt), (tt, tt));
  }),
)

-- a change file has up to 64 MiB
mebibytes_of_files : max_file ≡ 64 * 1024 * 1024
mebibytes_of_files = refl

-- the last sequence number is the greatest one of nine digits
last_sequence : max_sequence ≡ 10 ^ 9 - 1
last_sequence = refl

-- a node comes before a way, whatever their ids
node_before_way : key_cmp (record { kind = Node; id = pos 9 }) (record { kind = Way; id = pos 1 }) ≡ Less
node_before_way = refl

-- a way comes before a relation
way_before_relation : key_cmp (record { kind = Way; id = pos 9 }) (record { kind = Relation; id = pos 1 }) ≡ Less
way_before_relation = refl

-- ids are compared as whole numbers: -2 comes before -1, and 9 before 10
minus_2_before_minus_1 : key_cmp (record { kind = Way; id = negsuc 1 }) (record { kind = Way; id = negsuc 0 }) ≡ Less
minus_2_before_minus_1 = refl

nine_before_ten : key_cmp (record { kind = Node; id = pos 9 }) (record { kind = Node; id = pos 10 }) ≡ Less
nine_before_ten = refl

-- a filter has up to 100 keys
keys_of_filters : max_keys ≡ 100
keys_of_filters = refl

-- texts are compared by their bytes: `B` comes before `a`, and `a` before `aa`
capital_before_small : bytes_cmp (codes "B") (codes "a") ≡ Less
capital_before_small = refl

prefix_before_longer : bytes_cmp (codes "a") (codes "aa") ≡ Less
prefix_before_longer = refl

-- the keys `b`, `a` don't rise, and neither do `a`, `a`
falling_keys : AreRising (codes "b" ∷ codes "a" ∷ []) → ⊥
unfolding IsStrictlySortedBy
falling_keys r = let e = r.0.0 in absurd cc

repeated_keys : AreRising (codes "a" ∷ codes "a" ∷ []) → ⊥
unfolding IsStrictlySortedBy
repeated_keys r = let e = r.0.0 in absurd cc

-- what the filter `w/highway` keeps
ways_with_highway : FilterValue
ways_with_highway = record { nodes = false; ways = true; relations = false; keys = codes "highway" ∷ [] }

tag : List ℕ → List ℕ → Tag
tag key value = record { key = key; value = value }

changed : Kind → What → ChangeValue
changed kind what =
    let meta : MetaValue = record { version = 1; time = 1704067200; changeset = 7; uid = 5; user = codes "ann" } in
    record { key = record { kind = kind; id = pos 10 }; meta = meta; what = what }

-- a way with the key, whatever its value, also after a tag of another key
way_with_key : (value : List ℕ) → keeps ways_with_highway (changed Way (whats.Way [] (tag (codes "highway") value ∷ []))) ≡ true
unfolding keeps changed tag ways_with_highway
way_with_key value = refl

way_with_key_last : keeps ways_with_highway (changed Way (whats.Way [] (tag (codes "name") (codes "x") ∷ tag (codes "highway") (codes "path") ∷ []))) ≡ true
unfolding keeps changed tag ways_with_highway
way_with_key_last = refl

-- not one with the key as a value, nor with a longer or a shorter key, nor without tags
way_with_value : keeps ways_with_highway (changed Way (whats.Way [] (tag (codes "name") (codes "highway") ∷ []))) ≡ false
unfolding keeps changed tag ways_with_highway
way_with_value = refl

way_with_longer_key : keeps ways_with_highway (changed Way (whats.Way [] (tag (codes "highway:lanes") (codes "2") ∷ []))) ≡ false
unfolding keeps changed tag ways_with_highway
way_with_longer_key = refl

way_with_shorter_key : keeps ways_with_highway (changed Way (whats.Way [] (tag (codes "high") (codes "path") ∷ []))) ≡ false
unfolding keeps changed tag ways_with_highway
way_with_shorter_key = refl

way_without_tags : keeps ways_with_highway (changed Way (whats.Way (pos 1 ∷ []) [])) ≡ false
unfolding keeps changed ways_with_highway
way_without_tags = refl

-- no object of another kind, and no deletion
node_with_key : keeps ways_with_highway (changed Node (whats.Node (pos 1) (pos 2) (tag (codes "highway") (codes "stop") ∷ []))) ≡ false
unfolding keeps changed tag ways_with_highway
node_with_key = refl

deleted_way : keeps ways_with_highway (changed Way whats.Deleted) ≡ false
unfolding keeps changed ways_with_highway
deleted_way = refl

-- a filter without keys keeps a relation by its kind alone
relation_by_kind : keeps (record { nodes = false; ways = false; relations = true; keys = [] }) (changed Relation (whats.Relation [] [])) ≡ true
unfolding keeps changed
relation_by_kind = refl
