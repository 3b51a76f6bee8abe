-- Texts that bytes begin with.
use Rattle.std.proofs.Common.{◌≡◌, ℕ, zero, suc, ◌+◌, ◌-◌, ◌*◌, ◌/◌, ◌%◌, ◌^◌, ◌<◌, ◌≤◌, true, ◌&&◌, List, [], ◌∷◌, ◌++◌}
use Rattle.std.proofs.Common.{Some, length, get_or, take, drop, refl, sym, ap, subst, ◌∙◌, append_assoc, arith, lit<}
use Rattle.std.specs.Prelude.{◌≢◌, nat_le, not}
use Rattle.std.specs.Char.{digit_char, encode_utf8}
use Rattle.std.specs.List.{AllByRecursion, list_all}
use Rattle.std.specs.Str.{IsAscii, IsUtf8, chars}
use lib.Utf8.{encodes, scalar, scalars}
use Rattle.std.proofs.Math.Nat.{pow-suc, pow-le-pow_right}
use Rattle.std.proofs.Math.Seq.{take-append_seam}
use Rattle.std.proofs.lemmas.Option.{same_Some}
use Rattle.std.proofs.lemmas.Bool.Decides.{nat_tests}
use Rattle.std.proofs.lemmas.List.{append-nil, drop_more, length-append, length-take-le, take-append-drop, take_more}
use Rattle.std.proofs.lemmas.Str.{IsUtf8-append, IsUtf8-encode, IsUtf8-from_ascii, IsUtf8-nil, chars-IsAscii, chars-encodes}
use Rattle.std.proofs.lemmas.Str.{encodes-append, encodes-IsAscii, scalars-chars}
use Rattle.osm_model.specs.Text.{IsText}
use Rattle.osm_reading.specs.Pieces.{Lacks}
use Rattle.osm_reading.proofs.PieceLemmas.{lacks_append}
use Rattle.osm_reading.proofs.StepLemmas.{both_held}
use Rattle.osm_opl.specs.Escape.{is_reserved}
use Rattle.osm_opl.specs.Steps.Begins.{Begins, BeginsChars, BeginsWith, IsEscaped}
use Rattle.osm_opl.specs.Written.{char_text, chars_text, escaped_text, hex_count, hex_digits, is_written_bare}
use Rattle.osm_opl.specs.Reading.{text_at}
use Rattle.osm_opl.proofs.EscapeLaws.{text_again}
use Rattle.osm_opl.proofs.EscapeLemmas.{encode_lacks, lacks_contains}
use Rattle.osm_opl.proofs.WrittenLemmas.{ascii_if_bare, bare_chars, written_as_it_is}
use Rattle.osm_opl.proofs.WrittenTexts.{text_is_spelled}

-- ---- characters after one another

chars_text-append : (xs ys : List ℕ) → chars_text (xs ++ ys) ≡ chars_text xs ++ chars_text ys
chars_text-append [] ys = refl
chars_text-append (x ∷ xs) ys = ap (λ (l : List ℕ). char_text x ++ l) (chars_text-append xs ys)
    ∙ sym (append_assoc (char_text x) (chars_text xs) (chars_text ys))

scalars_both : (xs ys : List ℕ) → scalars xs ≡ true → scalars ys ≡ true → scalars (xs ++ ys) ≡ true
scalars_both [] ys p q = q
scalars_both (x ∷ xs) ys p q = let both = both_held (scalar x) (scalars xs) p in rw (both.0, scalars_both xs ys both.1 q) refl

others_both : (xs ys : List ℕ) → AllByRecursion (λ c. c ≢ 0) xs → AllByRecursion (λ c. c ≢ 0) ys → AllByRecursion (λ c. c ≢ 0) (xs ++ ys)
others_both [] ys p q = q
others_both (x ∷ xs) ys p q = (p.0, others_both xs ys p.1 q)

pub no_chars : (bytes : List ℕ) → BeginsChars bytes bytes 0
no_chars bytes = record { characters = []; scalar = refl; other = tt; sized = refl; parts = refl }

more_chars : (a b c : List ℕ) (m n : ℕ) → BeginsChars a b m → BeginsChars b c n → BeginsChars a c (m + n)
more_chars a b c m n h k =
    let xs : List ℕ = h.characters in
    let ys : List ℕ = k.characters in
    let size : length (encodes (xs ++ ys)) ≡ length (encodes xs) + length (encodes ys) =
    ap length (encodes-append xs ys) ∙ length-append (encodes xs) (encodes ys) in
    record {
      characters = xs ++ ys;
      scalar = scalars_both xs ys h.scalar k.scalar;
      other = others_both xs ys h.other k.other;
      sized = omega (arith, size, h.sized, k.sized);
      parts = h.parts ∙ ap (λ (l : List ℕ). chars_text xs ++ l) k.parts
          ∙ sym (append_assoc (chars_text xs) (chars_text ys) c)
          ∙ ap (λ (l : List ℕ). l ++ c) (sym (chars_text-append xs ys));
    }

pub part_more : (bytes rest after : List ℕ) (room size left : ℕ) → BeginsChars bytes rest (1020 - room)
    → BeginsChars rest after size → size ≤ room → room ≤ 1020 → left ≡ room - size → BeginsChars bytes after (1020 - left)
part_more bytes rest after room size left h k fits few is =
    let e : 1020 - room + size ≡ 1020 - left = omega arith in
    subst (λ (n : ℕ). BeginsChars bytes after n) e (more_chars bytes rest after (1020 - room) size h k)

utf8_of : (cs : List ℕ) → scalars cs ≡ true → IsUtf8 (encodes cs)
utf8_of [] h = IsUtf8-nil
utf8_of (c ∷ cs) h =
    let both = both_held (scalar c) (scalars cs) h in
    IsUtf8-append (encode_utf8 c) (encodes cs) (IsUtf8-encode c both.0) (utf8_of cs both.1)

lacks_nul : (cs : List ℕ) → AllByRecursion (λ c. c ≢ 0) cs → Lacks 0 (encodes cs)
lacks_nul [] h = tt
lacks_nul (c ∷ cs) h = lacks_append 0 (encode_utf8 c) (encodes cs) (encode_lacks 0 c (lit< tt) h.0) (lacks_nul cs h.1)

pub chars_done : (bytes rest : List ℕ) (size : ℕ) → BeginsChars bytes rest size → size ≤ 1020 → Begins escaped_text IsText bytes rest
unfolding escaped_text
chars_done bytes rest size h few =
    let xs : List ℕ = h.characters in
    record {
      value = encodes xs;
      limits = record {
        utf8 = utf8_of xs h.scalar;
        no_nul = lacks_contains 0 (encodes xs) (lacks_nul xs h.other);
        short = omega (arith, h.sized, few);
      };
      parts = h.parts ∙ ap (λ (l : List ℕ). chars_text l ++ rest) (sym (chars-encodes xs h.scalar));
    }

-- ---- bare characters

others_if_bare : (bytes : List ℕ) → list_all is_written_bare bytes ≡ true → AllByRecursion (λ c. c ≢ 0) bytes
others_if_bare [] e = tt
others_if_bare (b ∷ bs) e =
    let p = both_held (is_written_bare b) (list_all is_written_bare bs) e in
    let q = both_held (nat_le 0x21 b && nat_le b 0x7e) (not (is_reserved b)) p.0 in
    let r = both_held (nat_le 0x21 b) (nat_le b 0x7e) q.0 in
    let test : nat_le 0x21 b ≡ true = r.0 in
    let low : 0x21 ≤ b = grind (arith, nat_tests) in
    (λ z. omega arith, others_if_bare bs p.1)

pub bare_part : (bytes : List ℕ) (count : ℕ) → list_all is_written_bare (take count bytes) ≡ true → count ≤ length bytes
    → BeginsChars bytes (drop count bytes) count
bare_part bytes count bare within =
    let xs : List ℕ = take count bytes in
    let ascii : IsAscii (take count bytes) = ascii_if_bare (take count bytes) bare in
    let same : chars (take count bytes) ≡ take count bytes = chars-IsAscii (take count bytes) ascii in
    record {
      characters = take count bytes;
      scalar = ap scalars (sym same) ∙ scalars-chars (take count bytes) (IsUtf8-from_ascii (take count bytes) ascii);
      other = others_if_bare (take count bytes) bare;
      sized = ap length (encodes-IsAscii (take count bytes) ascii) ∙ length-take-le count bytes within;
      parts = sym (take-append-drop count bytes) ∙ ap (λ (l : List ℕ). l ++ drop count bytes) (sym (bare_chars (take count bytes) bare));
    }

pub bare_is_text : (bytes : List ℕ) → list_all is_written_bare bytes ≡ true → length bytes ≤ 1020 → IsText bytes
bare_is_text bytes bare short = record {
  utf8 = IsUtf8-from_ascii bytes (ascii_if_bare bytes bare);
  no_nul = lacks_contains 0 bytes (others_if_bare bytes bare);
  short = short;
}

-- bytes that are written bare are the text itself
pub bare_with : (bytes : List ℕ) (count : ℕ) → list_all is_written_bare (take count bytes) ≡ true → length (take count bytes) ≤ 1020
    → BeginsWith escaped_text IsText (take count bytes) bytes (drop count bytes)
bare_with bytes count bare short = record {
  limits = bare_is_text (take count bytes) bare short;
  parts = sym (take-append-drop count bytes) ∙ ap (λ (l : List ℕ). l ++ drop count bytes) (sym (written_as_it_is (take count bytes) bare));
}

-- a text that is read up to where it ends
pub read_with : (bytes rest text : List ℕ) → Begins escaped_text IsText bytes rest
    → text_at (take (length bytes - length rest) bytes) ≡ Some text → BeginsWith escaped_text IsText text bytes rest
read_with bytes rest text h e =
    let size : length bytes ≡ length (escaped_text h.value) + length rest = ap length h.parts ∙ length-append (escaped_text h.value) rest in
    let count : length bytes - length rest ≡ length (escaped_text h.value) = omega (arith, size) in
    let front : take (length bytes - length rest) bytes ≡ escaped_text h.value =
    ap (λ (n : ℕ). take n bytes) count ∙ ap (λ (l : List ℕ). take (length (escaped_text h.value)) l) h.parts
    ∙ take-append_seam (escaped_text h.value) rest in
    let read : text_at (escaped_text h.value) ≡ Some h.value =
    text_again (escaped_text h.value) h.value (text_is_spelled h.value h.limits) h.limits in
    let same : h.value ≡ text = same_Some h.value text (sym read ∙ ap text_at (sym front) ∙ e) in
    subst (λ (t : List ℕ). BeginsWith escaped_text IsText t bytes rest) same (record { limits = h.limits; parts = h.parts })

-- one more byte that is written bare
pub bare_more : (bytes : List ℕ) (i : ℕ) → i < length bytes → list_all is_written_bare (take i bytes) ≡ true
    → is_written_bare (get_or bytes i 0) ≡ true → list_all is_written_bare (take (i + 1) bytes) ≡ true
bare_more bytes i lt all one = rw (take_more bytes i 0 lt) (push (take i bytes) (get_or bytes i 0) all one)
  where
    push : (xs : List ℕ) (x : ℕ) → list_all is_written_bare xs ≡ true → is_written_bare x ≡ true → list_all is_written_bare (xs ++ x ∷ []) ≡ true
    push [] x all one = rw one refl
    push (y ∷ ys) x all one =
        let p = both_held (is_written_bare y) (list_all is_written_bare ys) all in
        rw (p.0, push ys x p.1 one) refl

-- ---- escapes

pub escape_part : (bytes digits : List ℕ) (c code count : ℕ) → bytes ≡ 37 ∷ digits → hex_digits count code ≡ take count digits
    → count < length digits → get_or digits count 0 ≡ 37 → IsEscaped c code count
    → BeginsChars bytes (drop (count + 1) digits) (length (encode_utf8 c))
unfolding char_text
escape_part bytes digits c code count e read lt here h =
    let rest : List ℕ = drop (count + 1) digits in
    let first : char_text c ≡ 37 ∷ hex_digits (hex_count c) c ++ 37 ∷ [] = rw h.escaped refl in
    let same : hex_digits (hex_count c) c ≡ take count digits =
    ap (λ (k : ℕ). hex_digits k c) (sym h.digits) ∙ ap (λ (d : ℕ). hex_digits count d) h.same ∙ read in
    let text : char_text c ≡ 37 ∷ take count digits ++ 37 ∷ [] = first ∙ ap (λ (l : List ℕ). 37 ∷ l ++ 37 ∷ []) same in
    let next : drop count digits ≡ 37 ∷ drop (count + 1) digits =
    drop_more digits count 0 lt ∙ ap (λ (b : ℕ). b ∷ drop (count + 1) digits) here in
    let split : digits ≡ take count digits ++ 37 ∷ drop (count + 1) digits =
    sym (take-append-drop count digits) ∙ ap (λ (l : List ℕ). take count digits ++ l) next in
    let one : scalar c ≡ true = h.scalar in
    record {
      characters = c ∷ [];
      scalar = rw one refl;
      other = (h.other, tt);
      sized = ap length (append-nil (encode_utf8 c));
      parts = e ∙ ap (λ (l : List ℕ). 37 ∷ l) (split ∙ sym (append_assoc (take count digits) (37 ∷ []) (drop (count + 1) digits)))
          ∙ ap (λ (l : List ℕ). l ++ drop (count + 1) digits) (sym (append-nil (char_text c) ∙ text));
    }

-- what one more hexadecimal digit keeps
record HexMoves (k c d : ℕ) : Type 0 where
  over : (c * 16 + d) / 16 ^ suc k ≡ c / 16 ^ k

hex_moves : (k c d : ℕ) → k ≤ 5 → d < 16 → HexMoves k c d
hex_moves zero c d h lt = record { over = omega arith }
hex_moves (suc zero) c d h lt = record { over = omega arith }
hex_moves (suc (suc zero)) c d h lt = record { over = omega arith }
hex_moves (suc (suc (suc zero))) c d h lt = record { over = omega arith }
hex_moves (suc (suc (suc (suc zero)))) c d h lt = record { over = omega arith }
hex_moves (suc (suc (suc (suc (suc zero))))) c d h lt = record { over = omega arith }
hex_moves (suc (suc (suc (suc (suc (suc k)))))) c d h lt = absurd (omega arith)

hex_push : (k c d : ℕ) → k ≤ 5 → d < 16 → hex_digits (suc k) (c * 16 + d) ≡ hex_digits k c ++ digit_char d ∷ []
unfolding hex_digits
hex_push zero c d h lt = let last : (c * 16 + d) / 16 ^ 0 % 16 ≡ d = omega arith in ap (λ (x : ℕ). digit_char x ∷ []) last
hex_push (suc k) c d h lt =
    let m : HexMoves k c d = hex_moves k c d (omega arith) lt in
    ap (λ (x : ℕ). digit_char (x % 16) ∷ hex_digits (suc k) (c * 16 + d)) m.over
    ∙ ap (λ (l : List ℕ). digit_char (c / 16 ^ k % 16) ∷ l) (hex_push k c d (omega arith) lt)

-- the hexadecimal digits so far
pub record HexRead (bytes : List ℕ) (code count : ℕ) : Type 0 where
  pub digits : hex_digits count code ≡ take count bytes
  pub small : code < 16 ^ count

pub no_hex : (bytes : List ℕ) → HexRead bytes 0 0
unfolding hex_digits
no_hex [] = record { digits = refl; small = omega arith }
no_hex (b ∷ bs) = record { digits = refl; small = omega arith }

pub more_hex : (bytes : List ℕ) (code count digit next : ℕ) → HexRead bytes code count → count ≤ 5 → count < length bytes
    → digit < 16 → get_or bytes count 0 ≡ digit_char digit → next ≡ 16 * code + digit → HexRead bytes next (count + 1)
more_hex bytes code count digit next h few lt low is e =
    let up : count + 1 ≡ suc count = omega arith in
    let small : code < 16 ^ count = h.small in
    let power : 16 ^ suc count ≡ 16 ^ count * 16 = pow-suc 16 count in
    let more : take (count + 1) bytes ≡ take count bytes ++ digit_char digit ∷ [] =
    take_more bytes count 0 lt ∙ ap (λ (b : ℕ). take count bytes ++ b ∷ []) is in
    let same : next ≡ code * 16 + digit = omega arith in
    let step : hex_digits (suc count) next ≡ take (count + 1) bytes =
    ap (hex_digits (suc count)) same ∙ hex_push count code digit few low ∙ ap (λ (l : List ℕ). l ++ digit_char digit ∷ []) h.digits ∙ sym more in
    record {
      digits = ap (λ (k : ℕ). hex_digits k next) up ∙ step;
      small = rw up (omega arith);
    }

pub hex_room : (code count : ℕ) → count ≤ 5 → code < 16 ^ count → code < 1048576
hex_room code count few small = let l : 16 ^ count ≤ 16 ^ 5 = pow-le-pow_right {n = 16} (lit< tt) {i = count} {j = 5} few in omega arith
