use Rattle.std.proofs.Common.{ltb, rules}
use Rattle.std.proofs.lemmas.List.Sorted.{IsPartitionPoint-from_clause, IsPartitionedBy-ltb}
use Rattle.osm_mirror.specs.Mirror.{Counted}
use Rattle.osm_asking.proofs.ChosenLemmas.{first_count}
use Rattle.osm_asking.proofs.chosen.count_of.Goals as goal

pub returns-then-first-id : goal.returns-then-first-id
returns-then-first-id c =
    (first_count c.args.counts.now c.args.id c.partition_point-place.result c.unwrap_or-first.result c.requires
    (IsPartitionPoint-from_clause (λ (e : Counted). ltb e.0 c.args.id) _ _ c.partition_point-place.ensures.partitioned
    (IsPartitionedBy-ltb (λ (e : Counted). e.0) _ c.args.id c.requires) (λ a r q k. search rules)) (search rules)).0 c.if-first-id.true

pub returns-else-first-id : goal.returns-else-first-id
returns-else-first-id c =
    (first_count c.args.counts.now c.args.id c.partition_point-place.result c.unwrap_or-first.result c.requires
    (IsPartitionPoint-from_clause (λ (e : Counted). ltb e.0 c.args.id) _ _ c.partition_point-place.ensures.partitioned
    (IsPartitionedBy-ltb (λ (e : Counted). e.0) _ c.args.id c.requires) (λ a r q k. search rules)) (search rules)).1 c.if-first-id.false
