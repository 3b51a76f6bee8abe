-- Tables of edits that aren't in the counts yet: each entry is a number with its edits.
use Rattle.std.specs.Prelude.{◌≡◌, ℕ, ◌+◌, ◌<◌, ◌≤◌, ◌==◌, ◌^◌, List, length, if◌then◌else◌}
use Rattle.std.specs.List.{sum_by}
use Rattle.osm_mirror.specs.Mirror.{Counted, count_at}

-- an entry with edits has a number above 0
abbrev pub IsNumbered : Counted → Type 0
IsNumbered e = 0 < e.1 → 0 < e.0

-- the edits of a number in an entry
abbrev pub edits_in : ℕ → Counted → ℕ
edits_in n e = if e.0 == n then e.1 else 0

-- the edits of a number in all entries
abbrev pub edits_of : List Counted → ℕ → ℕ
edits_of entries n = sum_by (edits_in n) entries

-- 1 for an entry with edits
abbrev pub one_if_filled : Counted → ℕ
one_if_filled e = if e.1 == 0 then 0 else 1

-- how many entries have edits
abbrev pub filled_of : List Counted → ℕ
filled_of entries = sum_by one_if_filled entries

-- one edit of that number
abbrev pub one_edit : ℕ → ℕ → ℕ
one_edit number n = if number == n then 1 else 0

abbrev pub no_edits : ℕ → ℕ
no_edits n = 0

-- counts and the entries of a table become new ones, with `edits` more in both together. No count
-- falls, and together there are at most `most` more counts and entries with edits
pub record Collects (old entries new left : List Counted) (edits : ℕ → ℕ) (most : ℕ) : Type 0 where
  pub counted : (n : ℕ) →
      count_at new n + edits_of left n ≡ count_at old n + edits_of entries n + edits n
  pub kept : (n : ℕ) → count_at old n ≤ count_at new n
  pub grown : length new + filled_of left ≤ length old + filled_of entries + most

-- an entry has edits of a number that has no count
pub record NeedsCount (counts entries : List Counted) : Type 0 where
  pub number : ℕ
  pub new : count_at counts number ≡ 0
  pub waiting : 0 < edits_of entries number

-- the counts have room for the edits of each number and that many more
abbrev pub HasRoomIn : List Counted → List Counted → ℕ → Type 0
HasRoomIn counts entries more = (n : ℕ) → count_at counts n + edits_of entries n + more < 2 ^ 64
