-- What of a save text is passed and written nowhere.
use Rattle.std.specs.Prelude.{◌≡◌, ℕ, List, Option, Some}

-- something is read, and that is left after it
pub record PassesTo {A : Type 0} (reading : Option (A × List ℕ)) (rest : List ℕ) : Type 0 where
  pub value : A
  pub read : reading ≡ Some (value, rest)

-- something is read
pub record IsRead {A : Type 0} (reading : Option A) : Type 0 where
  pub value : A
  pub read : reading ≡ Some value
