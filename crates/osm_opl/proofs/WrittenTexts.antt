-- A text that is written, with its escapes, spells what was written.
use Rattle.std.proofs.Common.{◌≡◌, ℕ, zero, suc, ◌+◌, ◌*◌, ◌/◌, ◌%◌, ◌^◌, ◌<◌, ◌≤◌, Bool, true, false, cond, List, []}
use Rattle.std.proofs.Common.{◌∷◌, ◌++◌, length, refl, sym, ap, subst, ◌∙◌, append_assoc, arith, inl, inr, lit<, lit≤}
use Rattle.std.specs.Prelude.{◌≢◌, nat_lt, Contains}
use Rattle.std.specs.Char.{digit_char, digit_value, encode_utf8}
use Rattle.std.specs.List.{AllByRecursion}
use Rattle.std.specs.Str.{chars}
use Rattle.std.specs.Str.Parse.{AllDigits, digits_value, digits_value_after}
use lib.Utf8.{scalar, scalars, scalar_cases, encodes}
use Rattle.osm_reading.proofs.StepLemmas.{both_held}
use Rattle.std.proofs.Math.Nat.{pow-suc, one-le-pow, mod-lt, mod-eq_of_lt, mul-add-mod_self_left, mul-le-mul_left}
use Rattle.std.proofs.lemmas.Bool.{cases_lt}
use Rattle.std.proofs.lemmas.Bool.Decides.{nat_tests}
use Rattle.std.proofs.lemmas.List.{get_or-append-add, length-append}
use Rattle.std.proofs.lemmas.Str.{digit_value-digit_char, encode_ascii, encodes-chars, scalars-chars}
use Rattle.osm_model.specs.Text.{IsText}
use Rattle.osm_opl.specs.Escape.{is_reserved, NamesChar, SpellsText, end, bare, escape}
use Rattle.osm_opl.specs.Written.{char_text, chars_text, hex_count, hex_digits, is_written_bare, escaped_text}

-- ---- the digits of an escape

-- digits after a number
hex_after : (n : ℕ) (ds : List ℕ) → digits_value_after 16 n ds ≡ n * 16 ^ length ds + digits_value 16 ds
hex_after n [] = omega arith
hex_after n (d ∷ ds) =
    let a : digits_value_after 16 (n * 16 + digit_value d) ds ≡ (n * 16 + digit_value d) * 16 ^ length ds
    + digits_value 16 ds = hex_after (n * 16 + digit_value d) ds in
    let b : digits_value_after 16 (0 * 16 + digit_value d) ds ≡ (0 * 16 + digit_value d) * 16 ^ length ds
    + digits_value 16 ds = hex_after (0 * 16 + digit_value d) ds in
    let p : 16 ^ suc (length ds) ≡ 16 ^ length ds * 16 = pow-suc 16 (length ds) in
    let q : n * 16 ^ suc (length ds) ≡ n * (16 ^ length ds * 16) = ap (λ (x : ℕ). n * x) p in
    omega (arith, a, b, q)

record IsHex (k c : ℕ) (ds : List ℕ) : Type 0 where
  each : AllDigits 16 ds
  count : length ds ≡ k
  value : digits_value 16 ds ≡ c % 16 ^ k

-- one more of the last digits of a number
hex_step : (p c d : ℕ) → 0 < p → d ≡ c / p % 16 → d * p + c % p ≡ c % (p * 16)
hex_step p c d above is =
    let e : ℕ = c / p / 16 in
    let back : c / p * p + c % p ≡ c = omega arith in
    let high : c / p ≡ 16 * (c / p / 16) + d = omega arith in
    let parts : c ≡ p * 16 * (c / p / 16) + (d * p + c % p) = let m : c / p * p ≡ (16 * (c / p / 16) + d) * p =
    ap (λ (x : ℕ). x * p) high in omega (arith, m, back) in
    let r : c % p < p = mod-lt c {m = p} above in
    let small : d ≤ 15 = omega arith in
    let bound : p * d ≤ p * 15 = mul-le-mul_left p small in
    let lt : d * p + c % p < p * 16 = omega (arith, bound, r) in
    sym (ap (λ (x : ℕ). x % (p * 16)) parts ∙ mul-add-mod_self_left (p * 16) (c / p / 16) (d * p + c % p) ∙ mod-eq_of_lt lt)

hex_are : (k c : ℕ) → IsHex k c (hex_digits k c)
unfolding hex_digits
hex_are zero c = record { each = tt; count = refl; value = omega arith }
hex_are (suc k) c =
    let inner : IsHex k c (hex_digits k c) = hex_are k c in
    let above : 0 < 16 ^ k = let o : 1 ≤ 16 ^ k = one-le-pow k 16 (lit< tt) in omega arith in
    let digit : digit_value (digit_char (c / 16 ^ k % 16)) ≡ c / 16 ^ k % 16 = digit_value-digit_char (c / 16 ^ k % 16) (omega arith) in
    let v : digits_value 16 (hex_digits k c) ≡ c % 16 ^ k = inner.value in
    let n : length (hex_digits k c) ≡ k = inner.count in
    let a : digits_value_after 16 (0 * 16 + digit_value (digit_char (c / 16 ^ k % 16))) (hex_digits k c) ≡
    (0 * 16 + digit_value (digit_char (c / 16 ^ k % 16))) * 16 ^ length (hex_digits k c)
    + digits_value 16 (hex_digits k c) = hex_after (0 * 16 + digit_value (digit_char (c / 16 ^ k % 16)))
    (hex_digits k c) in
    let first : 0 * 16 + digit_value (digit_char (c / 16 ^ k % 16)) ≡ c / 16 ^ k % 16 = omega (arith, digit) in
    let p : 16 ^ suc k ≡ 16 ^ k * 16 = pow-suc 16 k in
    record {
      each = (omega (arith, digit), inner.each);
      count = ap (λ (x : ℕ). suc x) n;
      value = a ∙ ap (λ (x : ℕ). x * 16 ^ length (hex_digits k c) + digits_value 16 (hex_digits k c)) first
          ∙ ap (λ (x : ℕ). c / 16 ^ k % 16 * 16 ^ x + digits_value 16 (hex_digits k c)) n
          ∙ ap (λ (x : ℕ). c / 16 ^ k % 16 * 16 ^ k + x) v ∙ hex_step (16 ^ k) c (c / 16 ^ k % 16) above refl
          ∙ ap (λ (x : ℕ). c % x) (sym p);
    }

scalar_bound : (c : ℕ) → scalar c ≡ true → c < 0x110000
scalar_bound c e = elim (scalar_cases c e) [ inl low ↦ omega arith | inr high ↦ high.1 ]

record Counted (c k : ℕ) : Type 0 where
  some : 1 ≤ k
  few : k ≤ 6
  below : c < 16 ^ k

counted : (c : ℕ) → c < 0x110000 → Counted c (hex_count c)
counted c h =
    elim (cases_lt c 0x100) [
      | inl a ↦ let t : nat_lt c 0x100 ≡ true = grind (arith, nat_tests) in rw t (record { some = lit≤ tt; few = lit≤ tt; below = a })
      | inr a ↦ let t : nat_lt c 0x100 ≡ false = grind (arith, nat_tests) in rw t (elim (cases_lt c 0x1000) [
        | inl b ↦ let u : nat_lt c 0x1000 ≡ true = grind (arith, nat_tests) in rw u (record { some = lit≤ tt; few = lit≤ tt; below = b })
        | inr b ↦ let u : nat_lt c 0x1000 ≡ false = grind (arith, nat_tests) in rw u (elim (cases_lt c 0x10000) [
          | inl d ↦ let v : nat_lt c 0x10000 ≡ true = grind (arith, nat_tests) in rw v (record { some = lit≤ tt; few = lit≤ tt; below = d })
          | inr d ↦ let v : nat_lt c 0x10000 ≡ false = grind (arith, nat_tests) in rw v (elim (cases_lt c 0x100000) [
            | inl e ↦ let w : nat_lt c 0x100000 ≡ true = grind (arith, nat_tests) in rw w (record { some = lit≤ tt; few = lit≤ tt; below = e })
            | inr e ↦ let w : nat_lt c 0x100000 ≡ false = grind (arith, nat_tests) in rw w (record { some = lit≤ tt; few = lit≤ tt; below = omega arith })
          ])
        ])
      ])
    ]

names : (c : ℕ) → scalar c ≡ true → c ≢ 0 → NamesChar (hex_digits (hex_count c) c) c
names c s other =
    let k : Counted c (hex_count c) = counted c (scalar_bound c s) in
    let h : IsHex (hex_count c) c (hex_digits (hex_count c) c) = hex_are (hex_count c) c in
    let n : length (hex_digits (hex_count c) c) ≡ hex_count c = h.count in
    let few : hex_count c ≤ 6 = k.few in
    let some : 1 ≤ hex_count c = k.some in
    record {
      numeral = (omega (arith, n, some), h.each);
      short = omega (arith, n, few);
      value =
          sym (h.value ∙ mod-eq_of_lt k.below);
      scalar = s;
      other = other;
    }

-- ---- characters and texts

char_spells : (c : ℕ) (bytes text : List ℕ) → scalar c ≡ true → c ≢ 0 → SpellsText bytes text → SpellsText (char_text c ++ bytes) (encode_utf8 c ++ text)
unfolding char_text
char_spells c bytes text s other h = by_test (is_written_bare c) refl
  where
    by_test : (t : Bool) → is_written_bare c ≡ t → SpellsText (cond t (c ∷ []) (37 ∷ hex_digits (hex_count c) c ++ 37 ∷ []) ++ bytes) (encode_utf8 c ++ text)
    by_test true e =
        let small : c < 128 = grind (arith, nat_tests) in
        let free : is_reserved c ≡ false = grind (arith, nat_tests) in
        subst (λ (l : List ℕ). SpellsText (l ++ bytes) (encode_utf8 c ++ text)) (encode_ascii c small)
        (bare c bytes text (record { scalar = s; free = free }) h)
    by_test false e = rw (append_assoc (37 ∷ hex_digits (hex_count c) c) (37 ∷ []) bytes) (escape (hex_digits (hex_count c) c) c bytes text (names c s other) h)

chars_spell : (cs : List ℕ) → scalars cs ≡ true → AllByRecursion (λ c. c ≢ 0) cs → SpellsText (chars_text cs) (encodes cs)
chars_spell [] s h = end
chars_spell (c ∷ cs) s h =
    let p = both_held (scalar c) (scalars cs) s in
    char_spells c (chars_text cs) (encodes cs) p.0 h.0 (chars_spell cs p.1 h.1)

chars_no_nul : (cs : List ℕ) → ¬ Contains (encodes cs) 0 → AllByRecursion (λ c. c ≢ 0) cs
chars_no_nul [] h = tt
chars_no_nul (c ∷ cs) h = (
  λ z. h (first_nul c (encodes cs) z),
  chars_no_nul cs (λ k. h (contains_after (encode_utf8 c) (encodes cs) k)),
)
  where
    first_nul : (c : ℕ) (rest : List ℕ) → c ≡ 0 → Contains (encode_utf8 c ++ rest) 0
    first_nul c rest z = let e : encode_utf8 c ≡ c ∷ [] = encode_ascii c (omega arith) in rw e (0, omega arith, z)

    contains_after : (xs ys : List ℕ) → Contains ys 0 → Contains (xs ++ ys) 0
    contains_after xs ys (k, lt, is) = let l : length (xs ++ ys) ≡ length xs + length ys = length-append xs ys in
        (length xs + k, omega arith, get_or-append-add xs ys k 0 ∙ is)

pub text_is_spelled : (text : List ℕ) → IsText text → SpellsText (escaped_text text) text
unfolding escaped_text
text_is_spelled text is =
    let back : encodes (chars text) ≡ text = encodes-chars text is.utf8 in
    let h = chars_spell (chars text) (scalars-chars text is.utf8) (chars_no_nul (chars text) (rw back is.no_nul)) in
    rw back at h
