-- Numbers that are read in one pass. Only clauses of private functions cite these definitions.
use Rattle.std.specs.Prelude.{◌≡◌, ℕ, List, [], ◌∷◌, Option, None, Some, ℤ}
use Rattle.osm_opl.specs.Reading.{digits_at, id_at}
use Rattle.osm_reading.specs.Pieces.{pieces}
use Rattle.osm_reading.specs.Answers.{and_then}

-- the first piece is the digits of the number, and the other pieces follow
pub record NumberFirst (separator : ℕ) (bytes : List ℕ) (n : ℕ) (more : List (List ℕ))
    : Type 0 where
  pub digits : List ℕ
  pub parts : pieces separator bytes ≡ digits ∷ more
  pub number : digits_at 10 20 digits ≡ Some n

-- the same for an id
pub record IdFirst (separator : ℕ) (bytes : List ℕ) (id : ℤ) (more : List (List ℕ)) : Type 0 where
  pub digits : List ℕ
  pub parts : pieces separator bytes ≡ digits ∷ more
  pub is : id_at digits ≡ Some id

-- the item of the first piece, and the other pieces
abbrev pub first_at : {X : Type 0} → (List ℕ → Option X) → List (List ℕ)
    → Option (X × List (List ℕ))
first_at read [] = None
first_at read (p ∷ ps) = and_then (read p) (λ x. Some (x, ps))
