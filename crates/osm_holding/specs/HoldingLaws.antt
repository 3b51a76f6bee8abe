-- Laws of holding areas, which hold whatever the code does.
use Rattle.std.specs.Prelude.{◌≡◌, ℕ, ◌+◌, ◌<◌, ◌≤◌, length, None}
use Rattle.osm_holding.specs.Holding.{HoldingValue, IsHolding, held_at, numbers_of, window}

-- two areas at the same number that hold the same at each number are equal
abbrev pub OneArea : Type 0
OneArea =
    (a b : HoldingValue) → IsHolding a → IsHolding b → a.reached ≡ b.reached →
    ((number : ℕ) → held_at a number ≡ held_at b number) → a ≡ b

-- an area holds at most as many sequences as its window has numbers
abbrev pub AtMostWindow : Type 0
AtMostWindow = (area : HoldingValue) → IsHolding area → length (numbers_of area) ≤ window

-- an area that doesn't hold the next sequence holds fewer
abbrev pub FewerThanWindow : Type 0
FewerThanWindow =
    (area : HoldingValue) → IsHolding area → held_at area (area.reached + 1) ≡ None →
    length (numbers_of area) < window
