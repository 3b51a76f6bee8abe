-- A written text has two lines, and their values are the digits of the sequence number and the text of
-- the time.
use Rattle.std.proofs.Common.{◌≡◌, ℕ, zero, suc, ◌+◌, ◌/◌, ◌<◌, ◌≤◌, ◌^◌, List, [], ◌∷◌, ◌++◌, length, take, drop}
use Rattle.std.proofs.Common.{get_or, reverse, true, false, nat_lt, refl, sym, ap, ◌∙◌, arith, append_assoc, lit<, inl}
use Rattle.std.proofs.Common.{inr}
use Rattle.std.specs.Prelude.{Some, None, codes, decimal, ◌==◌, if◌then◌else◌}
use Rattle.std.specs.List.{position, position_or_len}
use Rattle.std.specs.Str.Parse.{AllDigits}
use Rattle.std.specs.Int.{IsInRange}
use Rattle.std.proofs.lemmas.Bool.{cases_eq}
use Rattle.std.proofs.lemmas.Bool.Decides.{nat_tests}
use Rattle.std.proofs.lemmas.Fmt.{decimal_is_IsNumeral, length-decimal-le}
use Rattle.std.proofs.lemmas.List.{reverse-append, reverse-reverse, length-append}
use Rattle.std.proofs.Math.Seq.{take-append_seam, drop-append-add}
use Rattle.std.proofs.lemmas.Str.Parse.{digit_at}
use Rattle.osm_model.specs.Limits.{max_sequence}
use Rattle.osm_model.specs.Time.{Moment, moment_text, last_digit}
use Rattle.osm_reading.specs.Lines.{lines_of, without_cr}
use Rattle.osm_reading.specs.Pieces.{Lacks}
use Rattle.osm_reading.specs.Sequence.{SpellsSequence}
use Rattle.osm_reading.proofs.PieceLemmas.{pieces-more, pieces-one}
use Rattle.osm_state.specs.State.{StateValue, IsState}
use Rattle.osm_model.specs.CivilTime.{time_text, moment_at}
use Rattle.osm_state.specs.Properties.{is_blank, trimmed, trimmed_start, is_note, entry_of, last_value, value_of, unescaped}
use Rattle.osm_state.specs.StateText.{sequence_key, time_key, StateOf, state_text, escaped_colons}
use Rattle.osm_state.proofs.EscapeLemmas.{unescaped_empty, unescaped_byte, unescaped_escape}
use Rattle.osm_state.proofs.LineLemmas.{entry_of_some}
use Rattle.osm_model.proofs.CivilTimeLemmas.{time_text_shows}

-- every byte is dark, above the space: none is a blank, a line feed or a carriage return
abbrev AllDark : List ℕ → Type 0
AllDark [] = Unit {0}
AllDark (b ∷ bs) = (32 < b) × AllDark bs

dark-append : (a b : List ℕ) → AllDark a → AllDark b → AllDark (a ++ b)
dark-append [] b p q = q
dark-append (x ∷ a) b p q = (p.0, dark-append a b p.1 q)

dark-reverse : (a : List ℕ) → AllDark a → AllDark (reverse a)
dark-reverse [] p = tt
dark-reverse (x ∷ a) p = rw (reverse-append (x ∷ []) a) (dark-append (reverse a) (x ∷ []) (dark-reverse a p.1) (p.0, tt))

dark_start : (a : List ℕ) → AllDark a → trimmed_start a ≡ a
dark_start [] p = refl
dark_start (b ∷ bs) p =
    let solid : is_blank b ≡ false = grind (arith, nat_tests, p.0) in
    rw solid refl

-- nothing is trimmed from dark bytes
dark_trimmed : (a : List ℕ) → AllDark a → trimmed a ≡ a
unfolding trimmed
dark_trimmed a p = rw (dark_start a p, dark_start (reverse a) (dark-reverse a p)) (reverse-reverse a)

dark_at : (a : List ℕ) (i : ℕ) → i < length a → AllDark a → 32 < get_or a i 0
dark_at [] i h p = absurd (omega arith)
dark_at (b ∷ bs) zero h p = p.0
dark_at (b ∷ bs) (suc i) h p = dark_at bs i (omega arith) p.1

no_feed : (a : List ℕ) → AllDark a → Lacks 10 a
no_feed [] p = tt
no_feed (b ∷ bs) p = (omega (arith, p.0), no_feed bs p.1)

-- nor is a carriage return dropped
dark_line : (a : List ℕ) → AllDark a → without_cr a ≡ a
dark_line [] p = refl
dark_line (b ∷ []) p = let test : (b == 13) ≡ false = grind (arith, nat_tests, p.0) in rw test refl
dark_line (b ∷ c ∷ bs) p = ap (λ l. b ∷ l) (dark_line (c ∷ bs) p.1)

-- the lines of two dark lines, each ended by a line feed
two_lines : (a b : List ℕ) → AllDark a → AllDark b → lines_of (a ++ 10 ∷ (b ++ 10 ∷ [])) ≡ a ∷ b ∷ [] ∷ []
two_lines a b p q =
    let first = pieces-more 10 a (b ++ 10 ∷ []) (no_feed a p) in
    let second = pieces-more 10 b [] (no_feed b q) in
    rw (first, second, pieces-one 10 [] tt, dark_line a p, dark_line b q) refl

-- no byte is `=`
abbrev NoEquals : List ℕ → Type 0
NoEquals [] = Unit {0}
NoEquals (b ∷ bs) = ((b == 61) ≡ false) × NoEquals bs

equals_after : (k v : List ℕ) → NoEquals k → position_or_len (λ b. b == 61) (k ++ 61 ∷ v) ≡ length k
equals_after [] v p = refl
equals_after (b ∷ k) v p = rw (p.0, equals_after k v p.1) (omega arith)

position_equals : (k v : List ℕ) → NoEquals k → position (λ b. b == 61) (k ++ 61 ∷ v) ≡ Some (length k)
position_equals k v p =
    let at : position_or_len (λ b. b == 61) (k ++ 61 ∷ v) ≡ length k = equals_after k v p in
    let long : length (k ++ 61 ∷ v) ≡ length k + (length v + 1) = length-append k (61 ∷ v) ∙ omega arith in
    let inside : nat_lt (length k) (length (k ++ 61 ∷ v)) ≡ true = grind (arith, nat_tests) in
    rw (at, inside) refl

-- the entry of KEY=VALUE
written_entry : (k v : List ℕ) → NoEquals k → AllDark k → AllDark v → is_note (k ++ 61 ∷ v) ≡ false → entry_of (k ++ 61 ∷ v) ≡ Some (k, v)
written_entry k v p dark_k dark_v note =
    let key : trimmed (take (length k) (k ++ 61 ∷ v)) ≡ k = ap trimmed (take-append_seam k (61 ∷ v)) ∙ dark_trimmed k dark_k in
    let value : trimmed (drop (length k + 1) (k ++ 61 ∷ v)) ≡ v = ap trimmed (drop-append-add k (61 ∷ v) 1) ∙ dark_trimmed v dark_v in
    entry_of_some (k ++ 61 ∷ v) (length k) note (position_equals k v p) ∙ rw (key, value) refl

-- digits are dark
dark_digits : (ds : List ℕ) → AllDigits 10 ds → AllDark ds
dark_digits [] p = tt
dark_digits (d ∷ ds) p =
    let range : IsInRange 48 57 d = digit_at (d ∷ ds) 0 p (omega arith) in
    (omega (arith, range.0), dark_digits ds p.1)

-- no byte is a backslash
abbrev NoBackslash : List ℕ → Type 0
NoBackslash [] = Unit {0}
NoBackslash (b ∷ bs) = ((b == 92) ≡ false) × NoBackslash bs

-- bytes without a backslash stand for themselves
unescaped_plain : (bs : List ℕ) → NoBackslash bs → unescaped bs ≡ Some bs
unescaped_plain [] p = unescaped_empty
unescaped_plain (b ∷ bs) p = unescaped_byte b bs p.0 ∙ rw (unescaped_plain bs p.1) refl

digits_plain : (ds : List ℕ) → AllDigits 10 ds → NoBackslash ds
digits_plain [] p = tt
digits_plain (d ∷ ds) p =
    let range : IsInRange 48 57 d = digit_at (d ∷ ds) 0 p (omega arith) in
    let low : 48 ≤ d = range.0 in
    let high : d ≤ 57 = range.1 in
    (grind (arith, nat_tests), digits_plain ds p.1)

-- escaped colons stand for colons
unescaped-escaped : (bs : List ℕ) → NoBackslash bs → unescaped (escaped_colons bs) ≡ Some bs
unescaped-escaped [] p = unescaped_empty
unescaped-escaped (b ∷ bs) p =
    let rest = unescaped-escaped bs p.1 in
    elim (cases_eq b 58) [
      | inl colon ↦
          let test : (b == 58) ≡ true = grind (arith, nat_tests) in
          rw test (unescaped_escape 92 58 (escaped_colons bs) refl ∙ rw (rest, colon) refl)
      | inr other ↦
          let test : (b == 58) ≡ false = grind (arith, nat_tests) in
          rw test (unescaped_byte b (escaped_colons bs) p.0 ∙ rw rest refl)
    ]

dark_escaped : (bs : List ℕ) → AllDark bs → AllDark (escaped_colons bs)
dark_escaped [] p = tt
dark_escaped (b ∷ bs) p =
    let rest = dark_escaped bs p.1 in
    elim (b == 58) as (λ t. AllDark (if t then 92 ∷ 58 ∷ escaped_colons bs else b ∷ escaped_colons bs)) [
      | true ↦ (lit< tt, (lit< tt, rest))
      | false ↦ (p.0, rest)
    ]

-- the bytes of a time's text are digits, `-`, `T`, `:` and `Z`
last_digit_dark : (n : ℕ) → 32 < last_digit n
last_digit_dark n = omega arith

last_digit_plain : (n : ℕ) → (last_digit n == 92) ≡ false
last_digit_plain n =
    let high : last_digit n < 92 = omega arith in
    grind (arith, nat_tests)

dark_moment : (m : Moment) → AllDark (moment_text m)
dark_moment m = (
  last_digit_dark (m.year / 1000),
  (
    last_digit_dark (m.year / 100),
    (
      last_digit_dark (m.year / 10),
      (
        last_digit_dark m.year,
        (
          lit< tt,
          (
            last_digit_dark (m.month / 10),
            (
              last_digit_dark m.month,
              (
                lit< tt,
                (
                  last_digit_dark (m.day / 10),
                  (
                    last_digit_dark m.day,
                    (
                      lit< tt,
                      (
                        last_digit_dark (m.hour / 10),
                        (
                          last_digit_dark m.hour,
                          (
                            lit< tt,
                            (
                              last_digit_dark (m.minute / 10),
                              (
                                last_digit_dark m.minute,
                                (
                                  lit< tt,
                                  (last_digit_dark (m.second / 10), (last_digit_dark m.second, (lit< tt, tt))),
                                ),
                              ),
                            ),
                          ),
                        ),
                      ),
                    ),
                  ),
                ),
              ),
            ),
          ),
        ),
      ),
    ),
  ),
)

moment_plain : (m : Moment) → NoBackslash (moment_text m)
moment_plain m = (
  last_digit_plain (m.year / 1000),
  (
    last_digit_plain (m.year / 100),
    (
      last_digit_plain (m.year / 10),
      (
        last_digit_plain m.year,
        (
          refl,
          (
            last_digit_plain (m.month / 10),
            (
              last_digit_plain m.month,
              (
                refl,
                (
                  last_digit_plain (m.day / 10),
                  (
                    last_digit_plain m.day,
                    (
                      refl,
                      (
                        last_digit_plain (m.hour / 10),
                        (
                          last_digit_plain m.hour,
                          (
                            refl,
                            (
                              last_digit_plain (m.minute / 10),
                              (
                                last_digit_plain m.minute,
                                (
                                  refl,
                                  (last_digit_plain (m.second / 10), (last_digit_plain m.second, (refl, tt))),
                                ),
                              ),
                            ),
                          ),
                        ),
                      ),
                    ),
                  ),
                ),
              ),
            ),
          ),
        ),
      ),
    ),
  ),
)

time_dark : (t : ℕ) → AllDark (time_text t)
unfolding time_text
time_dark t = dark_moment (moment_at t)

time_plain : (t : ℕ) → NoBackslash (time_text t)
unfolding time_text
time_plain t = moment_plain (moment_at t)

sequence_key_dark : AllDark (codes "sequenceNumber")
sequence_key_dark = (
  lit< tt,
  (
    lit< tt,
    (
      lit< tt,
      (
        lit< tt,
        (lit< tt, (lit< tt, (lit< tt, (lit< tt, (lit< tt, (lit< tt, (lit< tt, (lit< tt, (lit< tt, (lit< tt, tt)))))))))),
      ),
    ),
  ),
)

time_key_dark : AllDark (codes "timestamp")
time_key_dark = (lit< tt, (lit< tt, (lit< tt, (lit< tt, (lit< tt, (lit< tt, (lit< tt, (lit< tt, (lit< tt, tt)))))))))

-- the entries of the two lines of a state's text
sequence_entry : (v : List ℕ) → AllDark v → entry_of (codes "sequenceNumber" ++ 61 ∷ v) ≡ Some (codes "sequenceNumber", v)
sequence_entry v p = written_entry (codes "sequenceNumber") v
    (refl, (refl, (refl, (refl, (refl, (refl, (refl, (refl, (refl, (refl, (refl, (refl, (refl, (refl, tt))))))))))))))
    sequence_key_dark p refl

time_entry : (v : List ℕ) → AllDark v → entry_of (codes "timestamp" ++ 61 ∷ v) ≡ Some (codes "timestamp", v)
time_entry v p = written_entry (codes "timestamp") v (refl, (refl, (refl, (refl, (refl, (refl, (refl, (refl, (refl, tt))))))))) time_key_dark p refl

no_entry : entry_of [] ≡ None
unfolding entry_of
no_entry = refl

two_line_text : (v w : List ℕ) → codes "sequenceNumber=" ++ v ++ codes "\ntimestamp=" ++ w
    ++ codes "\n" ≡ (codes "sequenceNumber" ++ 61 ∷ v) ++ 10 ∷ ((codes "timestamp" ++ 61 ∷ w) ++ 10 ∷ [])
two_line_text v w =
    append_assoc (codes "sequenceNumber=" ++ v ++ codes "\ntimestamp=") w (codes "\n")
    ∙ append_assoc (codes "sequenceNumber=" ++ v) (codes "\ntimestamp=") (w ++ codes "\n")

two_line_lines : (v w : List ℕ) → AllDark v → AllDark w → lines_of (codes "sequenceNumber=" ++ v ++ codes "\ntimestamp="
    ++ w ++ codes "\n") ≡ (codes "sequenceNumber" ++ 61 ∷ v) ∷ (codes "timestamp" ++ 61 ∷ w) ∷ [] ∷ []
two_line_lines v w p q =
    ap lines_of (two_line_text v w)
    ∙ two_lines (codes "sequenceNumber" ++ 61 ∷ v) (codes "timestamp" ++ 61 ∷ w)
    (dark-append (codes "sequenceNumber") (61 ∷ v) sequence_key_dark (lit< tt, p))
    (dark-append (codes "timestamp") (61 ∷ w) time_key_dark (lit< tt, q))

sequence_value : (v w : List ℕ) → AllDark v → AllDark w → value_of (codes "sequenceNumber=" ++ v ++ codes "\ntimestamp="
    ++ w ++ codes "\n") sequence_key ≡ Some v
unfolding last_value
sequence_value v w p q = ap (last_value sequence_key) (two_line_lines v w p q) ∙ rw (sequence_entry v p, time_entry w q, no_entry) refl

time_value : (v w : List ℕ) → AllDark v → AllDark w → value_of (codes "sequenceNumber=" ++ v ++ codes "\ntimestamp=" ++ w ++ codes "\n") time_key ≡ Some w
unfolding last_value
time_value v w p q = ap (last_value time_key) (two_line_lines v w p q) ∙ rw (sequence_entry v p, time_entry w q, no_entry) refl

-- the digits of a sequence number are a text of it
decimal_text : (n : ℕ) → n ≤ max_sequence → SpellsSequence (decimal n) n
decimal_text n h =
    let fits : n < 2 ^ 64 = omega arith in
    let numeral = decimal_is_IsNumeral n fits in
    record { numeral = numeral.0; short = length-decimal-le 9 n (lit< tt) (omega arith) fits; value = sym numeral.1 }

-- the text that is written for a state has that state
pub written_is_read : (s : StateValue) → IsState s → StateOf (state_text s) s
unfolding state_text
written_is_read s h =
    let digits = decimal_text s.sequence h.sequence in
    let dark = dark_digits (decimal s.sequence) digits.numeral.1 in
    let dark_time = dark_escaped (time_text s.time) (time_dark s.time) in
    record {
      sequence = record {
        value = decimal s.sequence;
        found = sequence_value (decimal s.sequence) (escaped_colons (time_text s.time)) dark dark_time;
        is_true = record {
          plain = decimal s.sequence;
          stands_for =
              unescaped_plain (decimal s.sequence) (digits_plain (decimal s.sequence) digits.numeral.1);
          number =
              digits;
        };
      };
      time = record {
        value = escaped_colons (time_text s.time);
        found = time_value (decimal s.sequence) (escaped_colons (time_text s.time)) dark dark_time;
        is_true = record {
          plain = time_text s.time;
          stands_for =
              unescaped-escaped (time_text s.time) (time_plain s.time);
          number =
              record { shows = time_text_shows s.time h.time.high; limits = h.time };
        };
      };
      limits = h;
    }
