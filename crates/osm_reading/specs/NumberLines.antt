-- Lines with numbers. Each ends with LF.
use Rattle.std.specs.Prelude.{ℕ, List, [], ◌∷◌, ◌++◌, codes, decimal}

-- `NAME N` and LF
abbrev pub numbered_line : List ℕ → ℕ → List ℕ
numbered_line name n = name ++ decimal n ++ 10 ∷ []

-- `applied LOW..HIGH` and LF
abbrev pub applied_line : ℕ × ℕ → List ℕ
applied_line range = codes "applied " ++ decimal range.0 ++ codes ".." ++ decimal range.1 ++ 10 ∷ []

-- `ID COUNT` and LF
abbrev pub count_line : ℕ × ℕ → List ℕ
count_line e = decimal e.0 ++ 32 ∷ decimal e.1 ++ 10 ∷ []

-- a number and LF
abbrev pub number_line : ℕ → List ℕ
number_line n = decimal n ++ 10 ∷ []
