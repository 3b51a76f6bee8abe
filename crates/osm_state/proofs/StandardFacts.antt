-- The definitions at texts, values and paths whose meaning a person can read off (OSM wiki,
-- Planet.osm/diffs; what it leaves open is our choice).
use Rattle.std.proofs.Common.{◌≡◌, ℕ, [], ◌∷◌, ◌++◌, refl, arith, rules}
use Rattle.std.specs.Prelude.{Some, None, codes}
use Rattle.std.specs.Fmt.{digits}
use Rattle.osm_model.specs.CivilTime.{time_text, year_of_day, month_of_day}
use Rattle.osm_model.specs.Limits.{max_sequence}
use Rattle.osm_reading.specs.Sequence.{SpellsSequence}
use Rattle.osm_reading.specs.Pieces.{pieces}
use Rattle.osm_state.specs.Properties.{value_of, unescaped, entry_of, last_value, trimmed}
use Rattle.osm_state.specs.StateText.{sequence_key, time_key, state_text}
use Rattle.osm_state.specs.Path.{path_text}
use Rattle.osm_state.specs.declared.paths.Suffix.TheVariants.{O5c, Opl, State}

-- a state file as a server writes it
server_sequence : value_of
    (codes "#Wed Sep 12 07:07:05 UTC 2012\r\ntxnMax=5\r\nsequenceNumber=1234567\r\ntimestamp=2012-09-12T07\\:06\\:02Z\r\n")
    sequence_key ≡ Some (codes "1234567")
unfolding entry_of last_value trimmed pieces
server_sequence = refl

server_time : value_of
    (codes "#Wed Sep 12 07:07:05 UTC 2012\r\ntxnMax=5\r\nsequenceNumber=1234567\r\ntimestamp=2012-09-12T07\\:06\\:02Z\r\n")
    time_key ≡ Some (codes "2012-09-12T07\\:06\\:02Z")
unfolding entry_of last_value trimmed pieces
server_time = refl

-- spaces and tabs around a key or a value are dropped, and those inside a value are kept
blanks : value_of (codes "\t sequenceNumber \t=\t 1 2\t ") sequence_key ≡ Some (codes "1 2")
unfolding entry_of last_value trimmed pieces
blanks = refl

-- a form feed, a vertical tab and a carriage return aren't blanks
form_feed : value_of (codes "sequenceNumber=" ++ 12 ∷ 55 ∷ []) sequence_key ≡ Some (12 ∷ 55 ∷ [])
unfolding entry_of last_value trimmed pieces
form_feed = refl

form_feed_after : value_of (codes "sequenceNumber=7" ++ 12 ∷ []) sequence_key ≡ Some (55 ∷ 12 ∷ [])
unfolding entry_of last_value trimmed pieces
form_feed_after = refl

form_feed_before_key : value_of (12 ∷ codes "sequenceNumber=7") sequence_key ≡ None
unfolding entry_of last_value trimmed pieces
form_feed_before_key = refl

vertical_tab : value_of (codes "sequenceNumber=7" ++ 11 ∷ []) sequence_key ≡ Some (55 ∷ 11 ∷ [])
unfolding entry_of last_value trimmed pieces
vertical_tab = refl

two_returns : value_of (codes "sequenceNumber=7\r\r\n") sequence_key ≡ Some (codes "7\r")
unfolding entry_of last_value trimmed pieces
two_returns = refl

-- a lone carriage return ends no line
lone_return : value_of (codes "a=1\rsequenceNumber=7") sequence_key ≡ None
unfolding entry_of last_value trimmed pieces
lone_return = refl

-- `#` and `!` begin a note, after blanks too; `;` and `//` don't
number_sign : value_of (codes " \t#sequenceNumber=7") sequence_key ≡ None
unfolding entry_of last_value trimmed pieces
number_sign = refl

exclamation_mark : value_of (codes "! \nsequenceNumber=7\n!sequenceNumber=8") sequence_key ≡ Some (codes "7")
unfolding entry_of last_value trimmed pieces
exclamation_mark = refl

note_of_the_key : value_of (codes "!=1") (codes "!") ≡ None
unfolding entry_of last_value trimmed pieces
note_of_the_key = refl

semicolon : value_of (codes ";=1") (codes ";") ≡ Some (codes "1")
unfolding entry_of last_value trimmed pieces
semicolon = refl

slashes : value_of (codes "//=1") (codes "//") ≡ Some (codes "1")
unfolding entry_of last_value trimmed pieces
slashes = refl

-- a `#` later in a line is part of the key or the value
late_sign : value_of (codes "sequenceNumber=7 # x") sequence_key ≡ Some (codes "7 # x")
unfolding entry_of last_value trimmed pieces
late_sign = refl

-- the first `=` ends a key; a colon or a blank doesn't
second_equals : value_of (codes "sequenceNumber=7=8") sequence_key ≡ Some (codes "7=8")
unfolding entry_of last_value trimmed pieces
second_equals = refl

colon : value_of (codes "sequenceNumber:7") sequence_key ≡ None
unfolding entry_of last_value trimmed pieces
colon = refl

colon_before_equals : value_of (codes "sequenceNumber:7=8") sequence_key ≡ None
unfolding entry_of last_value trimmed pieces
colon_before_equals = refl

blank_between : value_of (codes "sequenceNumber 7") sequence_key ≡ None
unfolding entry_of last_value trimmed pieces
blank_between = refl

-- the last line with a key counts, even if its value is empty; a line without `=` doesn't count
last_counts : value_of (codes "sequenceNumber=7\nsequenceNumber=8\na=9") sequence_key ≡ Some (codes "8")
unfolding entry_of last_value trimmed pieces
last_counts = refl

last_is_empty : value_of (codes "sequenceNumber=7\nsequenceNumber=") sequence_key ≡ Some []
unfolding entry_of last_value trimmed pieces
last_is_empty = refl

no_equals : value_of (codes "sequenceNumber=7\nsequenceNumber\r\n") sequence_key ≡ Some (codes "7")
unfolding entry_of last_value trimmed pieces
no_equals = refl

-- a backslash at the end of a line doesn't join it to the next
no_continuation : value_of (codes "sequenceNumber=7\\\n8") sequence_key ≡ Some (codes "7\\")
unfolding entry_of last_value trimmed pieces
no_continuation = refl

-- the case of a key counts, and a key isn't unescaped
lower_case : value_of (codes "sequencenumber=7") sequence_key ≡ None
unfolding entry_of last_value trimmed pieces
lower_case = refl

upper_case : value_of (codes "Timestamp=7") time_key ≡ None
unfolding entry_of last_value trimmed pieces
upper_case = refl

escaped_key : value_of (codes "time\\stamp=7") time_key ≡ None
unfolding entry_of last_value trimmed pieces
escaped_key = refl

-- a backslash stands for the byte after it, whichever that is: `\n` for `n`, `\u` for `u`
escapes : unescaped (codes "\\n\\t\\u0041\\\\\\:\\ ") ≡ Some (codes "ntu0041\\: ")
unfolding unescaped
escapes = refl

escaped_high_byte : unescaped (92 ∷ 200 ∷ 12 ∷ []) ≡ Some (200 ∷ 12 ∷ [])
unfolding unescaped
escaped_high_byte = refl

cut_escape : unescaped (codes "7\\") ≡ None
unfolding unescaped
cut_escape = refl

whole_escape : unescaped (codes "7\\\\") ≡ Some (codes "7\\")
unfolding unescaped
whole_escape = refl

-- 1 to 9 digits are a sequence; leading zeros count as digits, and a sign isn't one
nine_digits : SpellsSequence (codes "999999999") 999999999
nine_digits = record { numeral = (omega arith, search rules); short = omega arith; value = refl }

leading_zeros : SpellsSequence (codes "004366") 4366
leading_zeros = record { numeral = (omega arith, search rules); short = omega arith; value = refl }

ten_digits : (n : ℕ) → SpellsSequence (codes "0000000001") n → ⊥
ten_digits n h = omega (arith, h.short)

no_digits : (n : ℕ) → SpellsSequence [] n → ⊥
no_digits n h = omega (arith, h.numeral.0)

plus_sign : (n : ℕ) → SpellsSequence (codes "+1") n → ⊥
plus_sign n h = omega (arith, h.numeral.1.0)

-- the written text
written : state_text (record { sequence = 1234567; time = 1347433562 })
    ≡ codes "sequenceNumber=1234567\ntimestamp=2012-09-12T07\\:06\\:02Z\n"
unfolding state_text time_text year_of_day month_of_day digits
written = refl

-- nine digits in folders of three, and the texts of the suffixes
path_of_0 : path_text 0 Opl ≡ codes "000/000/000.opl"
unfolding path_text
path_of_0 = refl

path_of_1234567 : path_text 1234567 O5c ≡ codes "001/234/567.o5c"
unfolding path_text
path_of_1234567 = refl

path_of_20030100 : path_text 20030100 State ≡ codes "020/030/100.state.txt"
unfolding path_text
path_of_20030100 = refl

path_of_the_last : path_text max_sequence State ≡ codes "999/999/999.state.txt"
unfolding path_text
path_of_the_last = refl
