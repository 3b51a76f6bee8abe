-- How a word of the command line is shown.
use Rattle.std.specs.Prelude.{ℕ, Bool, List, [], ◌++◌, length, take, codes, nat_lt, if◌then◌else◌}
use Rattle.std.specs.Char.{encode_utf8, is_control}
use Rattle.std.specs.Char.Escape.{escape_unicode}
use Rattle.std.specs.List.{flat_map}
use Rattle.std.specs.Str.{chars}

-- how many characters of a word are shown
abbrev pub most_shown : ℕ
most_shown = 64

-- a character's escape, as `\u{1b}`
abbrev pub escape_of : ℕ → List ℕ
escape_of c = flat_map encode_utf8 (escape_unicode c)

-- a character as it is shown: a control character as its escape, any other as itself
abbrev pub shown_char : ℕ → List ℕ
shown_char c = if is_control c then escape_of c else encode_utf8 c

-- there are more characters than are shown
abbrev pub is_cut : List ℕ → Bool
is_cut characters = nat_lt most_shown (length characters)

-- the first characters as they are shown
abbrev pub start_of : List ℕ → List ℕ
start_of characters = flat_map shown_char (take most_shown characters)

-- characters as they are shown: the first 64 one by one, and `..` if there are more
abbrev pub shown_of : List ℕ → List ℕ
shown_of characters = start_of characters ++ (if is_cut characters then codes ".." else [])

-- a word as it is shown
abbrev pub echo_of : List ℕ → List ℕ
echo_of word = shown_of (chars word)
