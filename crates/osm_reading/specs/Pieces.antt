-- Texts in pieces, with a separator byte between them.
use Rattle.std.specs.Prelude.{ℕ, ◌==◌, ◌≢◌, List, [], ◌∷◌, ◌++◌, Option, None, Some, if◌then◌else◌}
use Rattle.std.specs.Borrow.{Bor}
use Rattle.std.specs.List.{AllByRecursion}

-- the pieces, joined with the separator between them
abbrev pub joined : ℕ → List (List ℕ) → List ℕ
joined separator [] = []
joined separator (p ∷ []) = p
joined separator (p ∷ q ∷ ps) = p ++ separator ∷ joined separator (q ∷ ps)

-- the pieces with one more byte at the beginning of the first
abbrev pub with_first : ℕ → List (List ℕ) → List (List ℕ)
with_first b [] = (b ∷ []) ∷ []
with_first b (p ∷ ps) = (b ∷ p) ∷ ps

-- the pieces of a text that is cut at each separator
unfoldable pub pieces : ℕ → List ℕ → List (List ℕ)
pieces separator [] = [] ∷ []
pieces separator (b ∷ bs) =
    if b == separator then [] ∷ pieces separator bs else with_first b (pieces separator bs)

-- the pieces of what follows a separator, if anything does
abbrev pub pieces_after : ℕ → Option (Bor (List ℕ)) → List (List ℕ)
pieces_after separator None = []
pieces_after separator (Some rest) = pieces separator rest.now

-- a cut with one more byte at the beginning of its first part
abbrev pub with_before : ℕ → Option (List ℕ × List ℕ) → Option (List ℕ × List ℕ)
with_before b None = None
with_before b (Some c) = Some (b ∷ c.0, c.1)

-- the bytes before the first separator, and those after it
unfoldable pub cut_at : ℕ → List ℕ → Option (List ℕ × List ℕ)
cut_at separator [] = None
cut_at separator (b ∷ bs) =
    if b == separator then Some ([], bs) else with_before b (cut_at separator bs)

-- the separator doesn't occur among the bytes
abbrev pub Lacks : ℕ → List ℕ → Type 0
Lacks separator bytes = AllByRecursion (λ b. b ≢ separator) bytes
