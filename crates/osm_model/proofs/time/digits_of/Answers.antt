-- The table is held against the digits of each number below 100, by computing.
use Rattle.std.proofs.Common.{◌≡◌, ℕ, zero, suc, ◌+◌, ◌*◌, ◌/◌, ◌%◌, ◌<◌, Bool, true, false, ◌&&◌, nat_eq, get_or, List, [], ◌∷◌, refl, arith, inl, inr}
use Rattle.std.proofs.lemmas.Bool.{cases_eq}
use Rattle.std.proofs.lemmas.Bool.Decides.{nat_tests}
use Rattle.osm_model.specs.declared.time.TheConstants.{PAIRS}
use Rattle.osm_model.specs.Time.{two_digits}
use Rattle.osm_model.proofs.time.digits_of.Goals as goal

holds_below : (ℕ → Bool) → ℕ → Bool
holds_below f zero = true
holds_below f (suc n) = f n && holds_below f n

both_of : (x rest : Bool) → (x && rest) ≡ true → (x ≡ true) × (rest ≡ true)
both_of true rest h = (refl, h)
both_of false rest h = cc

holds_at : (f : ℕ → Bool) (n : ℕ) → holds_below f n ≡ true → (k : ℕ) → k < n → f k ≡ true
unfolding holds_below
holds_at f zero h k lt = absurd (omega arith)
holds_at f (suc n) h k lt =
    let both = both_of (f n) (holds_below f n) h in
    elim (cases_eq k n) [ inl same ↦ rw same both.0 | inr other ↦ holds_at f n both.1 k (omega arith) ]

-- a number's digits stand at its place
abbrev has_digits : List ℕ → ℕ → Bool
has_digits table k = nat_eq (get_or table (2 * k) 0) (48 + k / 10 % 10) && nat_eq (get_or table (2 * k + 1) 0) (48 + k % 10)

from_table : (table : List ℕ) (k : ℕ) → k < 100 → holds_below (has_digits table) 100 ≡ true
    → get_or table (2 * k) 0 ∷ get_or table (2 * k + 1) 0 ∷ [] ≡ two_digits k
from_table table k lt h =
    let both = both_of (nat_eq (get_or table (2 * k) 0) (48 + k / 10 % 10))
    (nat_eq (get_or table (2 * k + 1) 0) (48 + k % 10)) (holds_at (has_digits table) 100 h k lt) in
    let tens : get_or table (2 * k) 0 ≡ 48 + k / 10 % 10 = grind (both.0, arith, nat_tests) in
    let ones : get_or table (2 * k + 1) 0 ≡ 48 + k % 10 = grind (both.1, arith, nat_tests) in
    rw (tens, ones) refl

pub returns : goal.returns
unfolding holds_below
returns c = from_table PAIRS c.args.number (omega arith) refl
