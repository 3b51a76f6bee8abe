-- The holding area: sequences that came early, kept until the sequences before them are applied.
use Rattle.std.specs.Prelude.{◌≡◌, ◌≢◌, ℕ, ◌+◌, ◌<◌, ◌≤◌, ◌==◌, List, map, Option, IsSome}
use Rattle.std.specs.List.Sorted.{IsStrictlyIncreasing}
use Rattle.std.specs.Map.{lookup}
use Rattle.osm_model.specs.Limits.{max_sequence}
use Rattle.osm_holding.specs.declared.holding.Held.{Held}

-- the number that a follower has reached, and the sequences that it holds, each with its number
pub record HoldingValue : Type 0 where
  pub reached : ℕ
  pub entries : List (ℕ × Held)

-- the sequence that an area holds at a number
abbrev pub held_at : HoldingValue → ℕ → Option Held
held_at area number = lookup (λ key. number == key) area.entries

-- the numbers of the sequences that an area holds
abbrev pub numbers_of : HoldingValue → List ℕ
numbers_of area = map (λ e. e.0) area.entries

-- how many numbers after its own a follower accepts
abbrev pub window : ℕ
window = 64

-- the number is after the one reached and within the window
pub record IsInWindow (reached number : ℕ) : Type 0 where
  pub above : reached < number
  pub within : number ≤ reached + window

-- a holding area: the number reached is a sequence number, what it holds is in the order of its
-- numbers, and each number at which it holds something is a sequence number within the window
pub record IsHolding (area : HoldingValue) : Type 0 where
  pub reached : area.reached ≤ max_sequence
  pub rising : IsStrictlyIncreasing (numbers_of area)
  pub within : (number : ℕ) → IsSome (held_at area number) → IsInWindow area.reached number
  pub limit : (number : ℕ) → IsSome (held_at area number) → number ≤ max_sequence

-- the new area holds `now` at the number, and is like the old one everywhere else
pub record ChangesAt (old new : HoldingValue) (number : ℕ) (now : Option Held) : Type 0 where
  pub reached : new.reached ≡ old.reached
  pub changed : held_at new number ≡ now
  pub others : (other : ℕ) → other ≢ number → held_at new other ≡ held_at old other
