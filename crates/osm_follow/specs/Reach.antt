-- Numbers without a gap.
use Rattle.std.specs.Prelude.{◌≡◌, ℕ, zero, suc, ◌+◌, ◌-◌, ◌<◌, ◌≤◌, List, [], ◌∷◌, ◌++◌, filter}
use Rattle.std.specs.Prelude.{Bool, true, false, not, min}
use Rattle.osm_holding.specs.Holding.{window}

-- all numbers after n up to m are in, and m + 1 isn't: m is the greatest number reached without a
-- gap
pub record Reaches (is_in : ℕ → Bool) (n m : ℕ) : Type 0 where
  pub from : n ≤ m
  pub all : (j : ℕ) → n < j → j ≤ m → is_in j ≡ true
  pub next : is_in (m + 1) ≡ false

-- the lists of n + 1 to n + count, joined
abbrev pub between : {A : Type 0} → (ℕ → List A) → ℕ → ℕ → List A
between f n zero = []
between f n (suc count) = between f n count ++ f (n + suc count)

-- n + 1 to n + count
abbrev pub numbers : ℕ → ℕ → List ℕ
numbers n count = between (λ j. j ∷ []) n count

-- the numbers after n, up to the smaller of n + window and top, that aren't in, rising
abbrev pub missing_numbers : (ℕ → Bool) → ℕ → ℕ → List ℕ
missing_numbers is_in n top = filter (λ j. not (is_in j)) (numbers n (min window (top - n)))
