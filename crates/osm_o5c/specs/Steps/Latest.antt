-- The strings that no chain leads to, each with the number at which it was entered last.
use Rattle.std.specs.Prelude.{◌≡◌, ◌⊎◌, ℕ, ◌+◌, ◌≤◌, List, Option, Some, None, Vec}
use Rattle.std.specs.BTreeMap.{is_at}
use Rattle.std.specs.Cmp.Lexicographic.{slice_cmp}
use Rattle.std.specs.declared.alloc.Global.{Global}
use Rattle.std.specs.Map.{lookup}
use Rattle.std.specs.Ordering.{nat_cmp}
use Rattle.osm_o5c.specs.Entries.{max_entries}
use Rattle.osm_o5c.specs.declared.latest.Latest.{Latest}

-- the number of a string in the entries of a map
abbrev pub place_in : List (Vec ℕ Global × ℕ) → List ℕ → Option ℕ
place_in entries text = lookup (is_at (λ key. slice_cmp nat_cmp text key.items)) entries

-- the number that there is, or 0
abbrev pub number_or_zero : Option ℕ → ℕ
number_or_zero (Some n) = n
number_or_zero None = 0

-- the number of a string, or 0 if there is none
abbrev pub latest_of : Latest → List ℕ → ℕ
latest_of latest text = number_or_zero (place_in latest.numbers.entries text)

-- each string has the number that it had, or is forgotten and its number can't be named any more,
-- now that `count` strings have been entered
abbrev pub MayHaveForgotten : Latest → Latest → ℕ → Type 0
MayHaveForgotten before after count = (t : List ℕ) → (latest_of after t ≡ latest_of before t)
    ⊎ ((latest_of after t ≡ 0) × (latest_of before t + max_entries ≤ count))
