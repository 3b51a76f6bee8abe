use Rattle.std.proofs.Common.{rules}
use Rattle.std.proofs.lemmas.List.Sorted.{IsNonDecreasingBy-from_sort_by_key}
use Rattle.osm_asking.specs.Counts.{place_of}
use Rattle.osm_asking.proofs.ChosenLemmas.{first_taken}
use Rattle.osm_asking.proofs.chosen.largest.Goals as goal

pub returns : goal.returns
returns c =
    first_taken c.args.most c.args.counts.items c.sort_unstable_by_key.new.self.items c.truncate.new.self.items c.sort_unstable_by_key.ensures.permutation
    (IsNonDecreasingBy-from_sort_by_key place_of _ c.sort_unstable_by_key.ensures.sorted (λ a r q k. search rules)) (search rules)
