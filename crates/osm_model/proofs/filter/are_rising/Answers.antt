use Rattle.std.proofs.Common.{rules}
use Rattle.std.specs.Ordering.{is_lt}
use Rattle.std.proofs.lemmas.List.Sorted.{answers_always}
use Rattle.osm_model.specs.Text.{bytes_cmp}
use Rattle.osm_model.proofs.FilterLemmas.{rising_answer}
use Rattle.osm_model.proofs.filter.are_rising.Goals as goal

-- the closure compares by the order of texts
pub returns : goal.returns
returns c = rising_answer c.args.keys.now c.is_sorted_by.result
    (c.is_sorted_by.ensures.cases (λ x y. is_lt (bytes_cmp x y)) (answers_always _ _ _ (λ f a r g called. search rules)))
