-- Texts of keys and values, one pair on each line: the part of Java's properties format that state
-- files use.
use Rattle.std.specs.Prelude.{ℕ, ◌+◌, ◌==◌, ◌||◌, Bool, false, List, [], ◌∷◌, take, drop}
use Rattle.std.specs.Prelude.{reverse, Option, Some, None, option_map, if◌then◌else◌}
use Rattle.std.specs.List.{position}
use Rattle.std.specs.Option.{option_or}
use Rattle.std.specs.Str.{bytes_eq}
use Rattle.osm_reading.specs.Lines.{lines_of}

-- a space or a tab
abbrev pub is_blank : ℕ → Bool
is_blank b = (b == 32) || (b == 9)

-- the bytes from the first that isn't a blank on
abbrev pub trimmed_start : List ℕ → List ℕ
trimmed_start [] = []
trimmed_start (b ∷ bs) = if is_blank b then trimmed_start bs else b ∷ bs

-- the bytes up to the last that isn't a blank
abbrev pub trimmed_end : List ℕ → List ℕ
trimmed_end bytes = reverse (trimmed_start (reverse bytes))

-- the bytes without the blanks at both ends
unfoldable pub trimmed : List ℕ → List ℕ
trimmed bytes = trimmed_end (trimmed_start bytes)

-- the bytes begin with `#` or `!`
abbrev pub begins_note : List ℕ → Bool
begins_note [] = false
begins_note (b ∷ bs) = (b == 35) || (b == 33)

-- a line is skipped if its first byte that isn't a blank is `#` or `!`
abbrev pub is_note : List ℕ → Bool
is_note line = begins_note (trimmed_start line)

-- KEY=VALUE: the bytes before the first `=` and those after it, both without blanks at their ends
abbrev pub cut_at_equals : List ℕ → Option (List ℕ × List ℕ)
cut_at_equals line =
    option_map (λ i. (trimmed (take i line), trimmed (drop (i + 1) line)))
    (position (λ b. b == 61) line)

-- the key and the value of a line; a line without `=`, such as a blank one, has none
unfoldable pub entry_of : List ℕ → Option (List ℕ × List ℕ)
entry_of line = if is_note line then None else cut_at_equals line

-- the value of an entry with that key
abbrev pub value_at : List ℕ → Option (List ℕ × List ℕ) → Option (List ℕ)
value_at key None = None
value_at key (Some entry) = if bytes_eq entry.0 key then Some entry.1 else None

-- the value of the last line with that key
unfoldable pub last_value : List ℕ → List (List ℕ) → Option (List ℕ)
last_value key [] = None
last_value key (line ∷ lines) = option_or (last_value key lines) (value_at key (entry_of line))

-- the value that a text gives to a key
abbrev pub value_of : List ℕ → List ℕ → Option (List ℕ)
value_of text key = last_value key (lines_of text)

-- a value without its escapes: `\c` stands for the byte c; none if a lone backslash ends the value
unfoldable pub unescaped : List ℕ → Option (List ℕ)
unescaped [] = Some []
unescaped (b ∷ []) = if b == 92 then None else Some (b ∷ [])
unescaped (b ∷ c ∷ bs) =
    if b == 92 then option_map (λ plain. c ∷ plain) (unescaped bs)
    else option_map (λ plain. b ∷ plain) (unescaped (c ∷ bs))
