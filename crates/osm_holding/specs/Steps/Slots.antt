-- How the slots of the ring show what is held. No public clause cites this.
use Rattle.std.specs.Prelude.{◌≡◌, ℕ, ◌+◌, ◌≤◌, List, [], ◌∷◌, length}
use Rattle.std.specs.Prelude.{Option, Some, None, IsSome}
use Rattle.circular_buffer.specs.Buffer.{Buffer}
use Rattle.osm_model.specs.Limits.{max_sequence}
use Rattle.osm_holding.specs.declared.holding.Held.{Held}
use Rattle.osm_holding.specs.Holding.{HoldingValue, held_at, window}

-- the entries of slots, which are for the first number and the numbers after it
abbrev pub entries_from : ℕ → List (Option Held) → List (ℕ × Held)
entries_from first [] = []
entries_from first (None ∷ slots) = entries_from (first + 1) slots
entries_from first (Some held ∷ slots) = (first, held) ∷ entries_from (first + 1) slots

-- the area that a number and the slots after it show
abbrev pub area_of : ℕ → List (Option Held) → HoldingValue
area_of reached slots = record { reached = reached; entries = entries_from (reached + 1) slots }

-- the slots of the window, in a ring with room for no more, after a number within the limits
pub record AreSlots (reached : ℕ) (slots : Buffer (Option Held)) : Type 0 where
  pub limit : reached ≤ max_sequence
  pub full : length slots.items ≡ window
  pub room : slots.capacity ≡ window
  pub sequences :
      (number : ℕ) → IsSome (held_at (area_of reached slots.items) number) → number ≤ max_sequence
