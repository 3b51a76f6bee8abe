use Rattle.osm_world.specs.History.{accepted_of, base_of, published_of, start_of}
use Rattle.osm_world.proofs.FewLemmas.{few_within}
use Rattle.osm_world.proofs.StateLemmas.{held_exactly, held_within, missing_as_accepted}
use Rattle.osm_world.proofs.laws.laws_of_holding.Goals as goal

pub returns-clause-number : goal.returns-clause-number
returns-clause-number c = λ f h w s whole. (let state = s.state whole in state.reach)

pub returns-clause-held : goal.returns-clause-held
returns-clause-held c = λ f h w j s whole. held_exactly f (published_of h) (base_of h) (start_of h) (accepted_of h) w.follower (s.state whole) j

pub returns-clause-window : goal.returns-clause-window
returns-clause-window c = λ f h w j s whole has. held_within f (published_of h) (base_of h) (start_of h) (accepted_of h) w.follower (s.state whole) j has

pub returns-clause-few : goal.returns-clause-few
returns-clause-few c = λ f h w js s whole sorted each. few_within w.follower.number js sorted
    (λ j has. held_within f (published_of h) (base_of h) (start_of h) (accepted_of h) w.follower (s.state whole) j (each j has))

pub returns-clause-missing : goal.returns-clause-missing
returns-clause-missing c = λ f h w top s whole. missing_as_accepted f (published_of h) (base_of h) (start_of h) (accepted_of h) w.follower (s.state whole) top
