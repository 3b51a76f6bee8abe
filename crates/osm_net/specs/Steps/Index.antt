-- Ids with their slots, as a list of rising ids and a map say them.
use Rattle.std.specs.Prelude.{◌≡◌, ℕ, ◌+◌, ℤ, List, [], ◌∷◌, ◌++◌, Option, None, option_to_list}
use Rattle.std.specs.BTreeMap.{insert_entry}
use Rattle.std.specs.List.Sorted.{IsStrictlySortedBy}
use Rattle.std.specs.Map.{keys_of}
use Rattle.std.specs.Ordering.{int_cmp}

-- ids with their positions, counted from a given one
abbrev pub numbered : ℕ → List ℤ → List (ℤ × ℕ)
numbered n [] = []
numbered n (id ∷ ids) = (id, n) ∷ numbered (n + 1) ids

-- entries put into a list of entries, the last one first
abbrev pub put_into : List (ℤ × ℕ) → List (ℤ × ℕ) → List (ℤ × ℕ)
put_into [] es = es
put_into (d ∷ ds) es = insert_entry int_cmp (put_into ds es) d.0 d.1

-- rows of a map, the first apart, and ids of a list: both rise, and there is a first one if there
-- are others
pub record AreRows (next : Option (ℤ × ℕ)) (others : List (ℤ × ℕ)) (ids : List ℤ) : Type 0 where
  pub mapped : IsStrictlySortedBy int_cmp (keys_of (option_to_list next ++ others))
  pub listed : IsStrictlySortedBy int_cmp ids
  pub first : next ≡ None → others ≡ []
