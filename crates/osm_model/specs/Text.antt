-- Texts: user names, keys and values of tags, roles of members.
use Rattle.std.specs.Prelude.{ℕ, ◌≤◌, List, length, Contains}
use Rattle.std.specs.Cmp.Lexicographic.{slice_cmp}
use Rattle.std.specs.Ordering.{nat_cmp}
use Rattle.std.specs.Str.{IsUtf8}
use Rattle.std.specs.declared.cmp.Ordering.{Ordering}

-- at most 1,020 bytes of UTF-8 without U+0000
pub record IsText (bytes : List ℕ) : Type 0 where
  pub utf8 : IsUtf8 bytes
  pub no_nul : ¬ Contains bytes 0
  pub short : length bytes ≤ 1020

-- which of two texts comes first: the one with the lower byte where they first differ, or the
-- shorter one if they don't differ up to its end
abbrev pub bytes_cmp : List ℕ → List ℕ → Ordering
bytes_cmp = slice_cmp nat_cmp
