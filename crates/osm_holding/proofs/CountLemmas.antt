-- How many sequences an area holds.
use Rattle.std.proofs.Common.{◌≡◌, ℕ, ◌+◌, ◌≤◌, List, [], ◌∷◌, length, refl, arith, inl, inr, subst, sym, ◌∙◌, ap, false, true}
use Rattle.std.proofs.lemmas.List.{length-map}
use Rattle.std.specs.Prelude.{IsSome, is_some}
use Rattle.std.specs.Map.{keys_of}
use Rattle.std.proofs.lemmas.Bool.{cases_eq, cases_lt}
use Rattle.std.proofs.lemmas.Map.Keys.{sorted_from_strictly_increasing}
use Rattle.osm_holding.specs.declared.holding.Held.{Held}
use Rattle.osm_holding.specs.Holding.{HoldingValue, IsHolding, numbers_of}
use Rattle.osm_holding.specs.HoldingLaws.{AtMostWindow, FewerThanWindow}
use Rattle.osm_holding.proofs.AreaLemmas.{RisesFrom, found_first, found_later, rises}
use Rattle.osm_holding.proofs.SlotLemmas.{found}

-- each number at which the entries have something is at most high
abbrev AreUpTo : ℕ → List (ℕ × Held) → Type 0
AreUpTo high es = (number : ℕ) → IsSome (found es number) → number ≤ high

first_is_there : (e : ℕ × Held) (es : List (ℕ × Held)) → IsSome (found (e ∷ es) e.0)
first_is_there e es = ap is_some (found_first e es e.0 refl)

-- entries that rise from a number up to another are no more than the numbers between them
count_to : (least high : ℕ) (es : List (ℕ × Held)) → RisesFrom least es → AreUpTo high es → least ≤ high + 1 → least + length es ≤ high + 1
count_to least high [] up to le = omega arith
count_to least high (e ∷ es) up to le =
    let above : least ≤ e.0 = up.0 in
    let within : e.0 ≤ high = to e.0 (first_is_there e es) in
    let others : (e.0 + 1) + length es ≤ high + 1 = count_to (e.0 + 1) high es up.1 others_to (omega arith) in
    omega arith
  where
    others_to : AreUpTo high es
    others_to number some = elim (cases_lt e.0 number) [
      | inl above ↦ to number (ap is_some (found_later e es number above) ∙ some)
      | inr below ↦ (let within : e.0 ≤ high = to e.0 (first_is_there e es) in omega arith)
    ]

-- entries of an area rise from the number of their first
rises_from : (least : ℕ) (es : List (ℕ × Held)) → RisesFrom 0 es → ((number : ℕ) → IsSome (found es number) → least ≤ number) → RisesFrom least es
rises_from least [] up above = tt
rises_from least (e ∷ es) up above = (above e.0 (first_is_there e es), up.1)

count_of : (area : HoldingValue) (least : ℕ) → IsHolding area → ((number : ℕ) → IsSome (found area.entries number)
    → least ≤ number) → least ≤ area.reached + 65 → least + length area.entries ≤ area.reached + 65
count_of area least is above le =
    let sorted = sorted_from_strictly_increasing (keys_of area.entries) is.rising in
    let many : least + length area.entries ≤ (area.reached + 64) + 1 = count_to least (area.reached + 64) area.entries
    (rises_from least area.entries (rises area.entries sorted) above)
    (λ number some. (let w = is.within number some in w.within)) (omega arith) in
    omega arith

pub at_most_window : AtMostWindow
at_most_window area is =
    let many : (area.reached + 1) + length area.entries ≤ area.reached + 65 =
    count_of area (area.reached + 1) is (λ number some. (let w = is.within number some in let past = w.above in
    omega arith)) (omega arith) in
    let same : length (numbers_of area) ≡ length area.entries = length-map area.entries (λ e. e.0) in
    omega arith

pub fewer_than_window : FewerThanWindow
fewer_than_window area is free =
    let many : (area.reached + 2) + length area.entries ≤ area.reached + 65 = count_of area (area.reached + 2) is later (omega arith) in
    let same : length (numbers_of area) ≡ length area.entries = length-map area.entries (λ e. e.0) in
    omega arith
  where
    later : (number : ℕ) → IsSome (found area.entries number) → area.reached + 2 ≤ number
    later number some = elim (cases_eq number (area.reached + 1)) [
      | inl next ↦ absurd (
          let there : IsSome (found area.entries (area.reached + 1)) = subst (λ (n : ℕ). IsSome (found area.entries n)) next some in
          let bad : true ≡ false = sym there ∙ ap is_some free in cc)
      | inr ne ↦ (let w = is.within number some in let past = w.above in omega (arith, ne))
    ]
