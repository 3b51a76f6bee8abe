-- What holds of the order of keys, of content and of counts, for any changes.
use Rattle.std.specs.Prelude.{◌≡◌, ℕ, ◌+◌, List, ◌++◌, true, ◌↔◌}
use Rattle.std.specs.Ordering.{nat_cmp}
use Rattle.osm_model.specs.Change.{ChangeValue}
use Rattle.osm_model.specs.Content.{content_of, object_after, over}
use Rattle.osm_model.specs.Content.{edits_by_user, edits_by_changeset}
use Rattle.osm_model.specs.KeyOrder.{kind_rank, same_key}
use Rattle.osm_model.specs.contracts.kind.KindOrd.TheImpl.{ghosts as kind_order}
use Rattle.osm_model.specs.declared.kind.Kind.{Kind}
use Rattle.osm_model.specs.declared.kind.Key.{Key}

-- kinds are ordered by their ranks: nodes, then ways, then relations
abbrev pub KindsAreOrdered : Type 0
KindsAreOrdered = (a b : Kind) → kind_order.cmp a b ≡ nat_cmp (kind_rank a) (kind_rank b)

-- two keys are equal exactly if their kinds and ids are
abbrev pub KeysAreTold : Type 0
KeysAreTold = (a b : Key) → (same_key a b ≡ true) ↔ (a ≡ b)

-- the content of two lists joined is the second made over the content of the first: a deletion in
-- the second takes out what the first left
abbrev pub ContentsJoin : Type 0
ContentsJoin = (a b : List ChangeValue) (k : Key)
    → content_of (a ++ b) k ≡ over object_after (content_of a) b k

-- the edits of two lists joined are those of both
abbrev pub EditsAdd : Type 0
EditsAdd = (a b : List ChangeValue) (n : ℕ) →
    (edits_by_user (a ++ b) n ≡ edits_by_user a n + edits_by_user b n)
    × (edits_by_changeset (a ++ b) n ≡ edits_by_changeset a n + edits_by_changeset b n)
