-- The reply that is due to a delivery, unless memory is refused: the first row that applies.
use Rattle.std.specs.Prelude.{ℕ, ◌+◌, length, Bool, ◌==◌, ◌||◌, if◌then◌else◌, nat_le, nat_lt}
use Rattle.osm_holding.specs.Holding.{window}
use Rattle.osm_world.specs.History.{History, accepted_of, is_broken, published_of}
use Rattle.osm_world.specs.declared.event.Reply.{Reply}
use Rattle.osm_world.specs.declared.event.Reply.TheVariants.{NotPublished, Broken, Old, Again}
use Rattle.osm_world.specs.declared.event.Reply.TheVariants.{TooEarly, Held, Applied}

-- no sequence k was published
abbrev pub is_unpublished : History → ℕ → Bool
is_unpublished h k = (k == 0) || nat_lt (length (published_of h)) k

-- after a history at number n, from which a delivery of sequence k would reach high: k was never
-- published, or the follower is broken, or k was applied, or accepted, or is past the window, or
-- comes after the next, or is the next
abbrev pub due_delivery : History → ℕ → ℕ → ℕ → Reply
due_delivery h k n high =
    if is_unpublished h k then NotPublished
    else (if is_broken h then Broken
    else (if nat_le k n then Old
    else (if accepted_of h k then Again
    else (if nat_lt (n + window) k then TooEarly
    else (if nat_lt (n + 1) k then Held
    else Applied k high)))))
