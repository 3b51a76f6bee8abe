-- How many numbers rise within bounds.
use Rattle.std.proofs.Common.{ℕ, suc, ◌+◌, ◌<◌, ◌≤◌, List, [], ◌∷◌, length, refl, arith}
use Rattle.std.specs.Prelude.{Contains}
use Rattle.std.specs.List.Sorted.{IsStrictlySortedBy}
use Rattle.std.specs.Ordering.{nat_cmp}
use Rattle.std.proofs.lemmas.Map.Keys.{below_from_sorted, sorted_tail}

-- numbers that rise from the first are no more than those from it up to the last
rise_to : (x : ℕ) (xs : List ℕ) (high : ℕ) → IsStrictlySortedBy nat_cmp (x ∷ xs) → ((j : ℕ) → Contains (x ∷ xs) j → j ≤ high) → x + length xs ≤ high
rise_to x [] high sorted within =
    let first : x ≤ high = within x (0, omega arith, refl) in omega arith
rise_to x (y ∷ ys) high sorted within =
    let above : x < y = below_from_sorted (x ∷ y ∷ ys) 0 1 0 sorted (omega arith) (omega arith) in
    let rest : y + length ys ≤ high = rise_to y ys high (sorted_tail nat_cmp x (y ∷ ys) sorted)
    (λ j has. within j (suc has.0, later has.0 (length (y ∷ ys)) has.1, has.2)) in
    omega arith
  where
    later : (k n : ℕ) → k < n → suc k < suc n
    later k n below = omega arith

-- numbers that rise, after the next one of n and up to n + 64, are fewer than 64
pub few_within : (n : ℕ) (js : List ℕ) → IsStrictlySortedBy nat_cmp js → ((j : ℕ) → Contains js j → (n + 1 < j) × (j ≤ n + 64)) → length js < 64
few_within n [] sorted each = omega arith
few_within n (x ∷ xs) sorted each =
    let first : n + 1 < x = (each x (0, omega arith, refl)).0 in
    let many : x + length xs ≤ n + 64 = rise_to x xs (n + 64) sorted (λ j has. (each j has).1) in
    omega arith
