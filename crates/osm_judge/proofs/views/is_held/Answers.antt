use Rattle.osm_judge.proofs.views.is_held.Goals as goal

pub returns-then-are_numbers_rising : goal.returns-then-are_numbers_rising
returns-then-are_numbers_rising c = (
  λ t. (c.are_numbers_rising.ensures.0 c.if-are_numbers_rising.true, c.are_exactly_held.ensures.0 t),
  λ both. c.are_exactly_held.ensures.1 both.1,
)
