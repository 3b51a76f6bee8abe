use Rattle.osm_world.proofs.LawLemmas.{accepts_what_is_confirmed, catches_up}
use Rattle.osm_world.proofs.OrderLemmas.{any_order}
use Rattle.osm_world.proofs.laws.laws_of_progress.Goals as goal

pub returns-clause-accepted : goal.returns-clause-accepted
returns-clause-accepted c = accepts_what_is_confirmed

pub returns-clause-catches_up : goal.returns-clause-catches_up
returns-clause-catches_up c = λ f h n count legal ok number is. catches_up f h n legal ok number count is

pub returns-clause-any_order : goal.returns-clause-any_order
returns-clause-any_order c = any_order
