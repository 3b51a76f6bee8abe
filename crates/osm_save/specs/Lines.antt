-- Lines of a save text (our choice).
use Rattle.std.specs.Prelude.{ℕ, List, [], ◌∷◌, ◌++◌, length, map, decimal}

-- the lines, each with LF after it
abbrev pub ended : List (List ℕ) → List ℕ
ended [] = []
ended (line ∷ lines) = line ++ 10 ∷ ended lines

-- a word with the number of values, and then a line for each value
abbrev pub list_lines : {X : Type 0} → List ℕ → (X → List ℕ) → List X → List (List ℕ)
list_lines word text xs = (word ++ decimal (length xs)) ∷ map text xs
