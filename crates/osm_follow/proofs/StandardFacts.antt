-- The definitions at values that a person knows: how far ahead a follower accepts sequences.
use Rattle.std.proofs.Common.{◌≡◌, refl}
use Rattle.std.specs.Prelude.{ℕ, ◌<◌, ◌≤◌, ◌↔◌}
use Rattle.osm_holding.specs.Holding.{IsInWindow, window}

-- 64 numbers, as many as a follower asks for in one go
numbers_of_window : window ≡ 64
numbers_of_window = refl

-- a follower at 7 accepts 8 to 71
window_of_seven : (number : ℕ) → IsInWindow 7 number ↔ ((7 < number) × (number ≤ 71))
window_of_seven number = ((λ w. (w.above, w.within)), (λ p. record { above = p.0; within = p.1 }))
