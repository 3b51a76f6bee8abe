use Rattle.std.proofs.Common.{◌∙◌, ◌≡◌, ℤ, w64, sym, subst}
use Rattle.std.specs.List.{AllByRecursion}
use Rattle.std.specs.List.Sorted.{IsBinarySearchResult}
use Rattle.std.specs.Ordering.{int_cmp}
use Rattle.std.specs.declared.cmp.Ordering.TheVariants.{Less}
use Rattle.std.proofs.lemmas.Int.{to_z-of_z}
use Rattle.osm_net.proofs.IndexLemmas.{none_above, ok_is, searched}
use Rattle.osm_net.proofs.index.position_of.Goals as goal

pub returns-then-is_above : goal.returns-then-is_above
returns-then-is_above c =
    sym (none_above c.args.rising.now c.args.id
    (subst (λ (id : ℤ). AllByRecursion (λ (k : ℤ). int_cmp k id ≡ Less) c.args.rising.now) (to_z-of_z w64 c.args.id c.ranges.id)
    (c.is_above.ensures.0 c.if-is_above.true)))

pub returns : goal.returns
returns c =
    c.ok.ensures.value ∙ (ok_is c.binary_search.result
    ∙ searched c.args.rising.now c.args.id c.binary_search.result c.requires c.binary_search.ensures.bound
    (subst (λ (id : ℤ). IsBinarySearchResult (λ (k : ℤ). int_cmp k id) c.args.rising.now c.binary_search.result) (to_z-of_z w64 c.args.id c.ranges.id)
    c.binary_search.ensures.position))
