-- The definitions at values that a person knows.
use Rattle.std.proofs.Common.{◌≡◌, ℕ, zero, suc, ◌+◌, List, [], ◌∷◌, refl}
use Rattle.std.specs.Prelude.{codes, filter}
use Rattle.osm_reading.specs.Lines.{is_skipped, lines_of}
use Rattle.osm_reading.specs.Pieces.{pieces}

-- that many numbers, from the first on
numbers_from : ℕ → ℕ → List ℕ
numbers_from first zero = []
numbers_from first (suc k) = first ∷ numbers_from (first + 1) k

-- of the lines that aren't empty, those that begin with `#` are skipped
skipped_beginnings : filter (λ b. is_skipped (b ∷ [])) (numbers_from 0 256) ≡ 35 ∷ []
unfolding numbers_from
skipped_beginnings = refl

-- LF ends a line, and one CR before it is dropped
lines_by_hand : lines_of (codes "a\r\r\n\nb\r") ≡ codes "a\r" ∷ [] ∷ codes "b" ∷ []
unfolding pieces
lines_by_hand = refl
