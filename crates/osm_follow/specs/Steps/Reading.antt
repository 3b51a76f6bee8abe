-- What is due of a delivery before its bytes are read.
use Rattle.std.specs.Prelude.{ℕ, List, ◌≤◌}
use Rattle.osm_model.specs.Limits.{max_sequence}
use Rattle.osm_follow.specs.Delivery.{AnswersUnread, IsDue}
use Rattle.osm_follow.specs.Follower.{FollowerValue}
use Rattle.osm_follow.specs.declared.delivery.Due.{Due}
use Rattle.osm_follow.specs.declared.delivery.Due.TheVariants.{Answer, Read}

-- that the bytes are read, for the sequence of that state, or an answer
abbrev pub IsDueOf : FollowerValue → List ℕ → Due → Type 0
IsDueOf f text (Read state) = IsDue f text state × (state.sequence ≤ max_sequence)
IsDueOf f text (Answer answer) = AnswersUnread f text answer
