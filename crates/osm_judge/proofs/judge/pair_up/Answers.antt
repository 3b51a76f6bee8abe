use Rattle.std.proofs.Common.{◌≡◌, [], ◌++◌, reverse, ap, sym, ◌∙◌, append-nil, inl, inr}
use Rattle.std.specs.List.{zip}
use Rattle.osm_judge.proofs.LegalLemmas.{no_first, no_second}
use Rattle.osm_judge.proofs.judge.pair_up.Goals as goal

-- one of the two lists has nothing left, so nothing is left to pair
pub returns : goal.returns
returns c =
    let events = c.loop-pair.pair-iterator.a.rest in
    let replies = c.loop-pair.pair-iterator.b.rest in
    let none : zip c.loop-pair.pair-iterator.a.rest.items c.loop-pair.pair-iterator.b.rest.items ≡ [] = elim c.in-None.ensures.steps [
      | inl e ↦ no_first events.items replies.items events.len events.ok.0 e.1.0
      | inr e ↦ no_second events.items replies.items replies.len replies.ok.0 e.1.0
    ] in
    c.reverse.ensures.items ∙ ap reverse (sym (append-nil c.loop-pair.pairs.items)
    ∙ (ap (λ rest. c.loop-pair.pairs.items ++ rest) (sym none) ∙ c.loop-pair.invariant))
