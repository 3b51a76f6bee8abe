-- How long the lines of a filter are at most.
use Rattle.std.proofs.Common.{◌≡◌, ℕ, zero, suc, ◌+◌, ◌*◌, ◌/◌, ◌%◌, ◌≤◌, Bool, true, false, List, [], ◌∷◌, ◌++◌, length, map}
use Rattle.std.proofs.Common.{refl, ap, arith, mul-suc}
use Rattle.std.specs.Prelude.{codes, decimal, if◌then◌else◌}
use Rattle.std.specs.Char.{encode_utf8}
use Rattle.std.specs.List.{AllByRecursion}
use Rattle.std.specs.Str.{IsUtf8, chars}
use lib.Utf8.{encodes}
use Rattle.std.proofs.lemmas.Bool.Decides.{nat_tests}
use Rattle.std.proofs.lemmas.Fmt.{length-decimal-le}
use Rattle.std.proofs.lemmas.List.{length-append}
use Rattle.std.proofs.lemmas.Str.{encodes-chars}
use Rattle.osm_model.specs.Filter.{FilterValue, IsFilter}
use Rattle.osm_model.specs.Limits.{max_keys}
use Rattle.osm_model.specs.Text.{IsText}
use Rattle.osm_opl.specs.Written.{char_text, chars_text, escaped_text, hex_count, hex_digits, is_written_bare}
use Rattle.osm_save.specs.Filters.{kinds_text, told_lines}
use Rattle.osm_save.specs.Lines.{ended}
use Rattle.osm_save.specs.declared.version.Version.{Version}
use Rattle.osm_save.specs.declared.version.Version.TheVariants.{One, Three, Two}

-- ---- characters

-- either part is as short as that
pub either : (t : Bool) (most : ℕ) (a b : List ℕ) → length a ≤ most → length b ≤ most → length (if t then a else b) ≤ most
either true most a b p q = p
either false most a b p q = q

hex_long : (k c : ℕ) → length (hex_digits k c) ≡ k
unfolding hex_digits
hex_long zero c = refl
hex_long (suc k) c = ap suc (hex_long k c)

-- two digits are enough for a character of one byte, and six for any
digits_few : (c : ℕ) → hex_count c + 2 ≤ 4 * length (encode_utf8 c)
unfolding encode_utf8
digits_few c = grind (arith, nat_tests)

char_short : (c : ℕ) → length (char_text c) ≤ 4 * length (encode_utf8 c)
unfolding char_text
char_short c =
    let few : hex_count c + 2 ≤ 4 * length (encode_utf8 c) = digits_few c in
    either (is_written_bare c) (4 * length (encode_utf8 c)) (c ∷ []) (37 ∷ hex_digits (hex_count c) c ++ 37 ∷ []) (omega arith)
    (simp (length-append, hex_long) (omega arith))

chars_short : (cs : List ℕ) → length (chars_text cs) ≤ 4 * length (encodes cs)
chars_short [] = omega arith
chars_short (c ∷ cs) = simp length-append (omega (arith, char_short c, chars_short cs))

-- at most four bytes are written for each byte of a text
pub escaped_short : (text : List ℕ) → IsUtf8 text → length (escaped_text text) ≤ 4 * length text
unfolding escaped_text
escaped_short text is =
    let back : encodes (chars text) ≡ text = encodes-chars text is in
    rw back at (chars_short (chars text))

-- ---- lines

keys_short : (keys : List (List ℕ)) → AllByRecursion IsText keys → length (ended (map escaped_text keys)) ≤ 4081 * length keys
keys_short [] all = omega arith
keys_short (key ∷ keys) all =
    let short : length key ≤ 1020 = all.0.short in
    let written : length (escaped_text key) ≤ 4 * length key = escaped_short key all.0.utf8 in
    let rest : length (ended (map escaped_text keys)) ≤ 4081 * length keys = keys_short keys all.1 in
    omega (arith, short, written, rest, length-append (escaped_text key) (10 ∷ ended (map escaped_text keys)), mul-suc 4081 (length keys))

kinds_short : (n w r : Bool) → length (codes "kinds " ++ kinds_text n w r) ≤ 9
kinds_short true true true = omega arith
kinds_short true true false = omega arith
kinds_short true false true = omega arith
kinds_short true false false = omega arith
kinds_short false true true = omega arith
kinds_short false true false = omega arith
kinds_short false false true = omega arith
kinds_short false false false = omega arith

lines_short : (kinds word : List ℕ) (n most : ℕ) (lines : List (List ℕ)) → length kinds ≤ 9 → length word ≤ 5 → n ≤ 100
    → length (ended lines) ≤ most → length (ended (kinds ∷ (word ++ decimal n) ∷ lines)) ≤ most + 19
lines_short kinds word n most lines short five few rest =
    omega (
      arith,
      short,
      five,
      rest,
      length-decimal-le 3 n (omega arith) (omega (arith, few)) (omega (arith, few)),
      length-append word (decimal n),
      length-append kinds (10 ∷ ended ((word ++ decimal n) ∷ lines)),
      length-append (word ++ decimal n) (10 ∷ ended lines),
    )

pub told_short : (version : Version) (f : FilterValue) → IsFilter f → length (ended (told_lines version f)) ≤ 408119
told_short One f is = omega arith
told_short Two f is = omega arith
told_short Three f is =
    let few : length f.keys ≤ max_keys = is.few in
    let keys : length (ended (map escaped_text f.keys)) ≤ 4081 * length f.keys = keys_short f.keys is.texts in
    lines_short (codes "kinds " ++ kinds_text f.nodes f.ways f.relations) (codes "keys ") (length f.keys) 408100
    (map escaped_text f.keys) (kinds_short f.nodes f.ways f.relations) (omega arith) few (omega (arith, keys, few))
