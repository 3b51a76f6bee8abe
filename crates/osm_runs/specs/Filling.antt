-- How much of a file that was begun is still to be written.
use Rattle.std.specs.Prelude.{◌≡◌, ℕ, List, ◌++◌, Some}
use Rattle.osm_store.specs.Frames.{IsKnown, StoreState}

-- the file that was begun at the name has the first part of the whole, and this is the rest
pub record Lacks (state : StoreState) (name rest whole : List ℕ) : Type 0 where
  pub text : List ℕ
  pub staged : state.stage ≡ Some (name, text)
  pub parts : whole ≡ text ++ rest

-- of what lacked those bytes, less is lacking now
abbrev pub Fills : StoreState → StoreState → List ℕ → List ℕ → Type 0
Fills old new before after =
    IsKnown old → (name whole : List ℕ) → Lacks old name before whole → Lacks new name after whole
