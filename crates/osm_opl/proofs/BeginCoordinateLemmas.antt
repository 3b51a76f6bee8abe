-- Coordinates that bytes begin with.
use Rattle.std.proofs.Common.{◌≡◌, ℕ, zero, suc, ◌+◌, ◌-◌, ◌*◌, ◌/◌, ◌%◌, ◌^◌, ◌<◌, ◌≤◌, true, false, ◌&&◌, List, [], ◌∷◌, ◌++◌}
use Rattle.std.proofs.Common.{length, get_or, take, drop, refl, sym, ap, ◌∙◌, arith, pos}
use Rattle.std.specs.Prelude.{◌==◌, ◌≢◌, ℤ, int_lt, neg_ℤ}
use Rattle.std.specs.Char.{digit_value}
use Rattle.std.specs.Fmt.{decimal}
use Rattle.std.specs.Str.Parse.{AllDigits, digits_value}
use Rattle.std.proofs.lemmas.Bool.Decides.{nat_tests}
use Rattle.std.proofs.lemmas.Int.Digits.{digits_value_more}
use Rattle.std.proofs.lemmas.List.{length-take-le, take-append-drop, take_more}
use Rattle.std.proofs.lemmas.Str.{digit_value_digit}
use Rattle.std.proofs.lemmas.Str.Parse.{digit_from_value}
use Rattle.osm_reading.proofs.StepLemmas.{both_held}
use Rattle.osm_opl.specs.Reading.{all_digits}
use Rattle.osm_opl.specs.Steps.Begins.{BeginsWith, IsNear}
use Rattle.osm_opl.specs.Written.{coordinate_text, decimals, fraction_text}
use Rattle.osm_opl.proofs.FractionLemmas.{all_decimals, less_zero, padded}
use Rattle.osm_opl.proofs.NumberLemmas.{all_digits-append, each_digit, few_digits}

-- ---- decimals with zeros after them

times_ten : ℕ → ℕ → ℕ
times_ten zero n = n
times_ten (suc j) n = times_ten j (n * 10)

record Scales (k n : ℕ) : Type 0 where
  below : n * 10 ^ (7 - k) < 10 ^ 7
  some : 0 < n → 0 < n * 10 ^ (7 - k)
  times : times_ten (7 - k) n ≡ n * 10 ^ (7 - k)

scales : (k n : ℕ) → k ≤ 7 → n < 10 ^ k → Scales k n
unfolding times_ten
scales zero n h lt = record { below = omega arith; some = λ s. omega arith; times = omega arith }
scales (suc zero) n h lt = record { below = omega arith; some = λ s. omega arith; times = omega arith }
scales (suc (suc zero)) n h lt = record { below = omega arith; some = λ s. omega arith; times = omega arith }
scales (suc (suc (suc zero))) n h lt = record { below = omega arith; some = λ s. omega arith; times = omega arith }
scales (suc (suc (suc (suc zero)))) n h lt = record { below = omega arith; some = λ s. omega arith; times = omega arith }
scales (suc (suc (suc (suc (suc zero))))) n h lt = record { below = omega arith; some = λ s. omega arith; times = omega arith }
scales (suc (suc (suc (suc (suc (suc zero)))))) n h lt = record { below = omega arith; some = λ s. omega arith; times = omega arith }
scales (suc (suc (suc (suc (suc (suc (suc zero))))))) n h lt = record { below = omega arith; some = λ s. omega arith; times = omega arith }
scales (suc (suc (suc (suc (suc (suc (suc (suc k)))))))) n h lt = absurd (omega arith)

more_zeros : (j k m n : ℕ) → m ≡ k + j → m ≤ 7 → n < 10 ^ k → decimals m (times_ten j n) ≡ decimals k n
unfolding times_ten
more_zeros zero k m n e few lt = let same : m ≡ k = omega arith in ap (λ (x : ℕ). decimals x n) same
more_zeros (suc j) k m n e few lt = more_zeros j (suc k) m (n * 10) (omega arith) few (omega arith) ∙ less_zero k n (omega arith) lt

-- ---- the digits themselves

padded_push : (i v d b : ℕ) (xs : List ℕ) → d < 10 → 48 + d ≡ b → padded i v ≡ xs → padded (suc i) (v * 10 + d) ≡ xs ++ b ∷ []
padded_push i v d b xs small is h =
    let over : (v * 10 + d) / 10 ≡ v = omega arith in
    let last : (v * 10 + d) % 10 ≡ d = omega arith in
    ap (λ (x : ℕ). padded i x ++ (48 + (v * 10 + d) % 10) ∷ []) over
    ∙ ap (λ (x : ℕ). padded i v ++ (48 + x) ∷ []) last
    ∙ ap (λ (x : ℕ). padded i v ++ x ∷ []) is
    ∙ ap (λ (l : List ℕ). l ++ b ∷ []) h

-- the last of some digits
record LastDigit (bytes : List ℕ) (i : ℕ) : Type 0 where
  more : take (suc i) bytes ≡ take i bytes ++ get_or bytes i 0 ∷ []
  before : all_digits 10 (take i bytes) ≡ true
  small : digit_value (get_or bytes i 0) < 10
  is : digit_value (get_or bytes i 0) + 48 ≡ get_or bytes i 0
  value : digits_value 10 (take (suc i) bytes) ≡ digits_value 10 (take i bytes) * 10 + digit_value (get_or bytes i 0)

last_of : (bytes : List ℕ) (i : ℕ) → suc i ≤ length bytes → all_digits 10 (take (suc i) bytes) ≡ true → LastDigit bytes i
last_of bytes i h all =
    let up : i + 1 ≡ suc i = omega arith in
    let more : take (suc i) bytes ≡ take i bytes ++ get_or bytes i 0 ∷ [] = rw up at (take_more bytes i 0 (omega arith)) in
    let split : (all_digits 10 (take i bytes) && all_digits 10 (get_or bytes i 0 ∷ [])) ≡ true =
    sym (all_digits-append 10 (take i bytes) (get_or bytes i 0 ∷ [])) ∙ ap (all_digits 10) (sym more) ∙ all in
    let both = both_held (all_digits 10 (take i bytes)) (all_digits 10 (get_or bytes i 0 ∷ [])) split in
    let digit : AllDigits 10 (get_or bytes i 0 ∷ []) = each_digit 10 (get_or bytes i 0 ∷ []) both.1 in
    record {
      more = more;
      before = both.0;
      small = digit.0;
      is = digit_value_digit (get_or bytes i 0) (digit_from_value (get_or bytes i 0) digit.0);
      value = rw up at (digits_value_more 10 bytes i (omega arith));
    }

padded_digits : (bytes : List ℕ) (i : ℕ) → i ≤ length bytes → all_digits 10 (take i bytes) ≡ true
    → padded i (digits_value 10 (take i bytes)) ≡ take i bytes
padded_digits [] zero h all = refl
padded_digits (b ∷ bs) zero h all = refl
padded_digits bytes (suc i) h all =
    let last : LastDigit bytes i = last_of bytes i h all in
    let inner : padded i (digits_value 10 (take i bytes)) ≡ take i bytes = padded_digits bytes i (omega arith) last.before in
    ap (padded (suc i)) last.value
    ∙ padded_push i (digits_value 10 (take i bytes)) (digit_value (get_or bytes i 0)) (get_or bytes i 0)
    (take i bytes) last.small (omega (arith, last.is)) inner
    ∙ sym last.more

-- the value ends with a digit other than 0 if the digits do
pub not_zero : (bytes : List ℕ) (n count : ℕ) → all_digits 10 (take count bytes) ≡ true → n ≡ digits_value 10 (take count bytes)
    → 1 ≤ count → count ≤ length bytes → get_or bytes (count - 1) 0 ≢ 48 → 0 < n % 10
not_zero bytes n zero all value some within other = absurd (omega arith)
not_zero bytes n (suc i) all value some within other =
    let last : LastDigit bytes i = last_of bytes i within all in
    let place : suc i - 1 ≡ i = omega arith in
    let digit : get_or bytes i 0 ≢ 48 = rw place at other in
    omega (arith, last.small, last.is, last.value, digit)

-- ---- what follows a point

value_below : (bytes : List ℕ) (n count : ℕ) → all_digits 10 (take count bytes) ≡ true → n ≡ digits_value 10 (take count bytes)
    → count ≤ length bytes → n < 10 ^ count
value_below bytes n count all value within =
    let short : length (take count bytes) ≤ count = omega (arith, length-take-le count bytes within) in
    rw value (few_digits count (take count bytes) short all)

-- decimals are less than a degree
pub decimals_small : (bytes : List ℕ) (n count scale : ℕ) → all_digits 10 (take count bytes) ≡ true
    → n ≡ digits_value 10 (take count bytes) → count ≤ 7 → count ≤ length bytes → scale ≡ 10 ^ (7 - count)
    → n * scale < 10 ^ 7
decimals_small bytes n count scale all value few within is =
    let s : Scales count n = scales count n few (value_below bytes n count all value within) in
    rw is s.below

-- decimals that don't end with a zero are what is written of them
pub decimals_begin : (bytes : List ℕ) (n count scale : ℕ) → all_digits 10 (take count bytes) ≡ true
    → n ≡ digits_value 10 (take count bytes) → count ≤ 7 → count ≤ length bytes → 0 < n % 10
    → scale ≡ 10 ^ (7 - count) → 46 ∷ bytes ≡ fraction_text (n * scale) ++ drop count bytes
decimals_begin bytes n count scale all value few within last is =
    let below : n < 10 ^ count = value_below bytes n count all value within in
    let s : Scales count n = scales count n few below in
    let some : 0 < n = omega arith in
    let above : 0 < n * 10 ^ (7 - count) = s.some some in
    let test : (n * 10 ^ (7 - count) == 0) ≡ false = grind (arith, nat_tests) in
    let digits : padded count n ≡ take count bytes = ap (padded count) value ∙ padded_digits bytes count within all in
    let zeros : decimals 7 (n * 10 ^ (7 - count)) ≡ decimals count n =
    ap (decimals 7) (sym s.times) ∙ more_zeros (7 - count) count 7 n (omega arith) (omega arith) below in
    let text : decimals 7 (n * 10 ^ (7 - count)) ≡ take count bytes = zeros ∙ all_decimals count n few below last ∙ digits in
    rw (is, test, text, take-append-drop count bytes) refl

-- ---- degrees

plus_begins : (most units : ℕ) (bytes rest : List ℕ) → bytes ≡ (decimal (units / 10 ^ 7) ++ fraction_text (units % 10 ^ 7)) ++ rest
    → units ≤ most → BeginsWith coordinate_text (IsNear most) (pos units) bytes rest
unfolding coordinate_text
plus_begins most units bytes rest e le =
    let t : int_lt (pos units) (pos 0) ≡ false = grind (arith, nat_tests) in
    record { limits = le; parts = rw t e }

minus_begins : (most units : ℕ) (bytes rest : List ℕ) → bytes ≡ (decimal (units / 10 ^ 7) ++ fraction_text (units % 10 ^ 7)) ++ rest
    → 1 ≤ units → units ≤ most → BeginsWith coordinate_text (IsNear most) (neg_ℤ (pos units)) (45 ∷ bytes) rest
unfolding coordinate_text
minus_begins most zero bytes rest e some le = absurd (omega arith)
minus_begins most (suc n) bytes rest e some le = record { limits = le; parts = ap (λ (l : List ℕ). 45 ∷ l) e }

pub signed_begins : (most units minus : ℕ) (value : ℤ) (bytes rest : List ℕ) → minus ≤ 1 → (1 ≤ minus → bytes ≡ 45 ∷ drop 1 bytes)
    → drop minus bytes ≡ (decimal (units / 10 ^ 7) ++ fraction_text (units % 10 ^ 7)) ++ rest
    → minus ≤ units → units ≤ most → (minus ≡ 0 → value ≡ pos units) → (1 ≤ minus → value ≡ neg_ℤ (pos units))
    → BeginsWith coordinate_text (IsNear most) value bytes rest
signed_begins most units zero value bytes rest few there e some le plus minus =
    rw (plus refl) (plus_begins most units bytes rest e le)
signed_begins most units (suc zero) value bytes rest few there e some le plus minus =
    rw (there (omega arith), minus (omega arith)) (minus_begins most units (drop 1 bytes) rest e some le)
signed_begins most units (suc (suc n)) value bytes rest few there e some le plus minus = absurd (omega arith)
