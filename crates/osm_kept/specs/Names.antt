-- The name of the journal beside a save.
use Rattle.std.specs.Prelude.{◌≡◌, ℕ, List, ◌++◌, codes}

-- the save's name, and `.journal`
abbrev pub journal_name_of : List ℕ → List ℕ
journal_name_of save = save ++ codes ".journal"

-- it isn't the name of the save
abbrev pub JournalHasOwnName : Type 0
JournalHasOwnName = (save : List ℕ) → journal_name_of save ≡ save → ⊥
