use Rattle.std.proofs.Common.{map, subst}
use Rattle.std.specs.List.Sorted.{IsPermutation}
use Rattle.std.proofs.lemmas.List.Sorted.{IsPermutation-sym}
use Rattle.osm_runs.proofs.FilterLemmas.{keys_of}
use Rattle.osm_runs.proofs.filters.sorted_keys.Goals as goal

pub returns-clause-keys : goal.returns-clause-keys
returns-clause-keys c =
    let there : IsPermutation (map (λ key. key.now) c.args.keys.now) c.sort_unstable.new.self.items =
    subst (λ texts. IsPermutation texts c.sort_unstable.new.self.items) c.in_ok-texts.ensures.same c.sort_unstable.ensures.permutation in
    keys_of (map (λ key. key.now) c.args.keys.now) c.sort_unstable.new.self.items c.dedup.new.self.items there
    (IsPermutation-sym _ _ there) c.sort_unstable.ensures.sorted c.dedup.ensures.filtered
