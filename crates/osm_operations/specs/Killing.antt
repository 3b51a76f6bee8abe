-- How many calls of the store a run can make: a killed run has that many, and a whole one has no
-- limit.
use Rattle.std.specs.Prelude.{ℕ, ◌≤◌, Option, Some, None}

-- at least that many calls can be made
abbrev pub HasCalls : ℕ → Option ℕ → Type 0
HasCalls most None = Unit {0}
HasCalls most (Some calls) = most ≤ calls

-- the run is killed
abbrev pub IsKilled : Option ℕ → Type 0
IsKilled None = ⊥
IsKilled (Some calls) = Unit {0}
