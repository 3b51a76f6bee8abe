-- Lists: parts of the same form up to the end of the bytes.
use Rattle.std.specs.Prelude.{ℕ, List, [], ◌∷◌, ◌++◌}

-- one part after another, each in the state that the parts before it leave, and nothing after them
pub data SpellsMany {State A : Type 0} (spells : State → List ℕ → A → State → Type 0)
    : State → List ℕ → List A → State → Type 0 where
  none : (s : State) → SpellsMany spells s [] [] s
  more : (s : State) (one : List ℕ) (x : A) (t : State) (rest : List ℕ) (xs : List A)
      (after : State)
      → spells s one x t → SpellsMany spells t rest xs after
      → SpellsMany spells s (one ++ rest) (x ∷ xs) after
