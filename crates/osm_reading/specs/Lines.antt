-- The lines of a text, such as an OPL file, a script or a state file.
use Rattle.std.specs.Prelude.{◌≡◌, ℕ, ◌==◌, Bool, true, List, [], ◌∷◌, ◌++◌, map}
use Rattle.std.specs.Prelude.{Option, None, Some, if◌then◌else◌}
use Rattle.std.specs.Borrow.{Bor}
use Rattle.osm_reading.specs.Pieces.{Lacks, pieces}

-- a piece without the CR at its end, if it has one
abbrev pub without_cr : List ℕ → List ℕ
without_cr [] = []
without_cr (b ∷ []) = if b == 13 then [] else b ∷ []
without_cr (b ∷ c ∷ bs) = b ∷ without_cr (c ∷ bs)

-- the bytes cut at each LF, each piece without one CR at its end
abbrev pub lines_of : List ℕ → List (List ℕ)
lines_of bytes = map without_cr (pieces 10 bytes)

-- the lines of what follows an LF, if anything does
abbrev pub lines_after : Option (Bor (List ℕ)) → List (List ℕ)
lines_after None = []
lines_after (Some rest) = lines_of rest.now

-- the bytes are a line, perhaps a CR, then LF and the rest
pub record BeginsWithLine (bytes line rest : List ℕ) : Type 0 where
  pub piece : List ℕ
  pub parts : bytes ≡ piece ++ 10 ∷ rest
  pub first : Lacks 10 piece
  pub ending : line ≡ without_cr piece

-- an empty line, or one that begins with `#`, says nothing (our choice)
abbrev pub is_skipped : List ℕ → Bool
is_skipped [] = true
is_skipped (b ∷ bs) = b == 35
