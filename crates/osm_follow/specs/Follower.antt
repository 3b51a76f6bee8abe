-- A follower: its number, the time of that sequence, the base after which it counts edits, its
-- filter and what its mirror keeps by it, and the sequences that came early.
use Rattle.std.specs.Prelude.{◌≡◌, ℕ, ◌+◌, ◌-◌, ◌*◌, ◌<◌, ◌≤◌, List, [], length, Bool, false, None}
use Rattle.std.specs.Prelude.{Option, Some, if◌then◌else◌, IsTrue, ◌↔◌, IfSome, is_some}
use Rattle.std.specs.Option.{option_map, option_map_or}
use Rattle.osm_holding.specs.Holding as area
use Rattle.osm_holding.specs.Holding.{HoldingValue, window}
use Rattle.osm_model.specs.Change.{ChangeValue}
use Rattle.osm_model.specs.Filter.{AreKept, FilterValue, IsFilter, everything}
use Rattle.osm_model.specs.Limits.{IsPositive, max_sequence, max_changes}
use Rattle.osm_mirror.specs.Mirror.{MirrorValue, IsMirrorOf, IsWithin, no_mirror}
use Rattle.osm_publisher.specs.Published.{PublishedValue, sequence_at, changes_after, changes_up_to}
use Rattle.osm_publisher.specs.Published.{time_at}
use Rattle.osm_follow.specs.Reach.{Reaches}

pub record FollowerValue : Type 0 where
  pub number : ℕ
  pub base : ℕ
  pub time : Option ℕ
  pub filter : FilterValue
  pub mirror : MirrorValue
  pub holding : HoldingValue
  pub is_broken : Bool

-- the sequence that an area holds at a number
abbrev pub sequence_in : HoldingValue → ℕ → Option PublishedValue
sequence_in holding number =
    option_map (λ h. record { number = number; changes = h.batch; time = h.time })
    (area.held_at holding number)

-- an area holds a sequence at the number
abbrev pub is_in : HoldingValue → ℕ → Bool
is_in holding number = is_some (sequence_in holding number)

-- the changes that an area holds at a number: none if it holds no sequence there
abbrev pub changes_in : HoldingValue → ℕ → List ChangeValue
changes_in holding number = option_map_or (λ p. p.changes) (sequence_in holding number) []

-- the time of the sequence that an area holds at a number, or the given time if it holds none there
abbrev pub time_in : HoldingValue → ℕ → ℕ → ℕ
time_in holding number given = option_map_or (λ p. p.time) (sequence_in holding number) given

-- the sequence that a follower holds for a number
abbrev pub held_at : FollowerValue → ℕ → Option PublishedValue
held_at f number = sequence_in f.holding number

-- the follower holds a sequence for that number
abbrev pub is_held : FollowerValue → ℕ → Bool
is_held f number = is_in f.holding number

-- the changes that the follower holds for that number
abbrev pub changes_held : FollowerValue → ℕ → List ChangeValue
changes_held f number = changes_in f.holding number

-- the follower with that filter at sequence 0
abbrev pub new_follower_of : FilterValue → FollowerValue
new_follower_of f = record {
  number = 0;
  base = 0;
  time = None;
  filter = f;
  mirror = no_mirror;
  holding = record { reached = 0; entries = [] };
  is_broken = false;
}

-- the one that keeps every object
abbrev pub new_follower : FollowerValue
new_follower = new_follower_of everything

-- the most edits that the sequences after a follower's base, up to its number, can have
abbrev pub most_edits : FollowerValue → ℕ
most_edits f = max_changes * (f.number - f.base)

-- a follower that isn't broken: its base isn't above its number; each count, and the number of its
-- users and of its changesets, is at most 100,000 times its number less its base; its filter keeps
-- each of its objects; it has a time except at 0; it holds sequences after its number, but not the
-- next one; all times are within the limits
pub record IsWhole (f : FollowerValue) : Type 0 where
  pub base : f.base ≤ f.number
  pub counts : IsWithin (most_edits f) f.mirror
  pub kept : AreKept f.filter f.mirror.objects
  pub timed : (f.time ≡ None) ↔ (f.number ≡ 0)
  pub time : IfSome f.time IsPositive
  pub reached : f.holding.reached ≡ f.number
  pub next : held_at f (f.number + 1) ≡ None
  pub times : (j : ℕ) → IfSome (held_at f j) (λ p. IsPositive p.time)

-- a follower: its number and its filter are within the limits, and it is whole unless it is broken
pub record IsFollower (f : FollowerValue) : Type 0 where
  pub most : f.number ≤ max_sequence
  pub filter : IsFilter f.filter
  pub whole : ¬ IsTrue f.is_broken → IsWhole f

-- the follower holds exactly what its filter keeps of the mirror of published sequences 1 to its
-- number, the time of the last, and the counts of all edits of those after its base; what it holds
-- is a published sequence that comes after the next, within its window
pub record Follows (published : List PublishedValue) (f : FollowerValue) : Type 0 where
  pub base : f.base ≤ f.number
  pub within : f.number ≤ length published
  pub mirror : IsMirrorOf f.filter (changes_up_to published f.number)
      (changes_after published f.base f.number) f.mirror
  pub time : f.time ≡ time_at published f.number
  pub held : (j : ℕ) (p : PublishedValue) → held_at f j ≡ Some p →
      (f.number + 1 < j) × (j ≤ f.number + window) × (j ≤ length published)
      × (p ≡ sequence_at published j)

-- what a follower is, given its filter, what was published, its base, the number that it started at
-- and which numbers it accepted: it is at the greatest number reached without a gap, and holds each
-- accepted number above it
pub record IsState (given : FilterValue) (published : List PublishedValue) (base start : ℕ)
    (is_accepted : ℕ → Bool) (f : FollowerValue) : Type 0 where
  pub filter_is : f.filter ≡ given
  pub base_is : f.base ≡ base
  pub reach : Reaches is_accepted start f.number
  pub follows : Follows published f
  pub held : (j : ℕ) → f.number < j →
      held_at f j ≡ (if is_accepted j then Some (sequence_at published j) else None)
