use Rattle.std.proofs.Common.{rules}
use Rattle.std.proofs.lemmas.Fn.{always_returns_same}
use Rattle.std.proofs.lemmas.List.Sorted.{IsNonDecreasingBy-from_sort_by_key}
use Rattle.osm_mirror.specs.Mirror.{Counted}
use Rattle.osm_asking.proofs.ChosenLemmas.{stable_count}
use Rattle.osm_asking.proofs.chosen.by_id.Goals as goal

pub returns-clause-rising : goal.returns-clause-rising
returns-clause-rising c = IsNonDecreasingBy-from_sort_by_key (λ (e : Counted). e.0) _ c.in_ok-sort_by_key.ensures.sorted (λ a r q k. search rules)

pub returns-clause-same : goal.returns-clause-same
returns-clause-same c =
    stable_count c.args.counts.items _
    (c.in_ok-sort_by_key.ensures.stable (λ (e : Counted). e.0) (always_returns_same _ _ _ (λ a r q k. search rules)))
