-- The order of keys: nodes, then ways, then relations, and those of one kind by their ids.
use Rattle.std.specs.Prelude.{ℕ, Bool}
use Rattle.std.specs.BTreeMap.{is_at}
use Rattle.std.specs.Ordering.{int_cmp, nat_cmp, on, then_cmp}
use Rattle.std.specs.declared.cmp.Ordering.{Ordering}
use Rattle.osm_model.specs.declared.kind.Key.{Key}
use Rattle.osm_model.specs.declared.kind.Kind.{Kind}
use Rattle.osm_model.specs.declared.kind.Kind.TheVariants.{Node, Way, Relation}

-- the position of a kind in the order
abbrev pub kind_rank : Kind → ℕ
kind_rank Node = 0
kind_rank Way = 1
kind_rank Relation = 2

-- which of two keys comes first: the one of the earlier kind, then the one with the lower id
abbrev pub key_cmp : Key → Key → Ordering
key_cmp = then_cmp (on (λ k. kind_rank k.kind) nat_cmp) (on (λ k. k.id) int_cmp)

-- whether two keys are equal
abbrev pub same_key : Key → Key → Bool
same_key a b = is_at (key_cmp a) b
