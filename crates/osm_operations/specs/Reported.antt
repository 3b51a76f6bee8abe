-- The numbers that a report of the follower says are applied. They are read from the text that is
-- printed, line by line.
use Rattle.std.specs.Prelude.{ℕ, ◌+◌, ◌-◌, List, [], ◌∷◌, ◌++◌, length, drop, ◌==◌, codes}
use Rattle.std.specs.Prelude.{if◌then◌else◌, Option, Some, None}
use Rattle.std.specs.Char.{is_ascii_digit}
use Rattle.std.specs.List.{flat_map}
use Rattle.std.specs.Str.Parse.{digits_value}
use Rattle.osm_follow.specs.Reach.{between}

-- the lines of a text that follows the beginning of a line, each without the LF that ends it
abbrev pub lines_after : List ℕ → List ℕ → List (List ℕ)
lines_after line [] = []
lines_after line (b ∷ text) =
    if b == 10 then line ∷ lines_after [] text else lines_after (line ++ b ∷ []) text

-- what follows the word, if the text begins with it
abbrev pub after_word : List ℕ → List ℕ → Option (List ℕ)
after_word [] text = Some text
after_word (b ∷ word) [] = None
after_word (b ∷ word) (c ∷ text) = if c == b then after_word word text else None

-- the digits that the text begins with
abbrev pub front_digits : List ℕ → List ℕ
front_digits [] = []
front_digits (b ∷ text) = if is_ascii_digit b then b ∷ front_digits text else []

-- all numbers from low to high, rising
abbrev pub from_to : ℕ → ℕ → List ℕ
from_to low high = between (λ j. (j - 1) ∷ []) low (high + 1 - low)

-- the numbers from low to the one that the text writes
abbrev pub numbers_up_to : ℕ → Option (List ℕ) → List ℕ
numbers_up_to low None = []
numbers_up_to low (Some text) = from_to low (digits_value 10 text)

-- the numbers of `LOW..HIGH`
abbrev pub numbers_of_range : Option (List ℕ) → List ℕ
numbers_of_range None = []
numbers_of_range (Some text) =
    numbers_up_to (digits_value 10 (front_digits text))
    (after_word (codes "..") (drop (length (front_digits text)) text))

-- the numbers of a line `applied LOW..HIGH`; any other line has none
abbrev pub numbers_on : List ℕ → List ℕ
numbers_on line = numbers_of_range (after_word (codes "applied ") line)

-- the numbers of all lines of a text, in their order
abbrev pub applied_in : List ℕ → List ℕ
applied_in text = flat_map numbers_on (lines_after [] text)
