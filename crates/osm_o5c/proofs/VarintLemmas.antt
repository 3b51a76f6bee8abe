-- A varint is read from its last byte, which holds the highest bits, back to its first.
use Rattle.std.proofs.Common.{◌≡◌, ℕ, zero, suc, ◌+◌, ◌-◌, ◌*◌, ◌%◌, ◌^◌, ◌<◌, ◌≤◌, true, false, ltb, List, [], ◌∷◌}
use Rattle.std.proofs.Common.{length, get_or, take, drop, Option, Some, None, refl, arith}
use Rattle.std.proofs.lemmas.Bool.Decides.{nat_tests}
use Rattle.osm_o5c.specs.NumberReading.{varint_at}
use Rattle.osm_reading.specs.Answers.{and_then, when}

-- what is read of a byte and the higher bits, and the bytes after them
pub with_low : ℕ → Option (ℕ × List ℕ) → Option (ℕ × List ℕ)
with_low b high = and_then high (λ h. when (ltb (b % 128 + 128 * h.0) (2 ^ 64)) (Some (b % 128 + 128 * h.0, h.1)))

-- the same of some bytes, one after another
pub with_lows : List ℕ → Option (ℕ × List ℕ) → Option (ℕ × List ℕ)
with_lows [] high = high
with_lows (b ∷ bs) high = with_low b (with_lows bs high)

pub varint_is : (most : ℕ) (bytes : List ℕ) (i : ℕ) → i < most → i < length bytes
    → ((k : ℕ) → k < i → 128 ≤ get_or bytes k 0) → get_or bytes i 0 < 128
    → varint_at most bytes ≡ with_lows (take i bytes) (Some (get_or bytes i 0, drop (i + 1) bytes))
unfolding varint_at with_lows with_low
varint_is zero bytes i few within high last = absurd (omega arith)
varint_is (suc most) [] i few within high last = absurd (omega arith)
varint_is (suc most) (b ∷ bs) zero few within high last =
    let low : ltb b 128 ≡ true = grind (arith, nat_tests) in
    rw low refl
varint_is (suc most) (b ∷ bs) (suc i) few within high last =
    let first : 128 ≤ b = high 0 (omega arith) in
    let more : ltb b 128 ≡ false = grind (arith, nat_tests) in
    let rest : varint_at most bs ≡ with_lows (take i bs) (Some (get_or bs i 0, drop (i + 1) bs)) =
    varint_is most bs i (omega arith) (omega arith) (λ k lt. high (suc k) (omega arith)) last in
    let next : suc i + 1 ≡ suc (i + 1) = omega arith in
    rw (more, rest, next) refl

-- no last byte among the first ones
pub varint_none : (most : ℕ) (bytes : List ℕ) → ((k : ℕ) → k < most → k < length bytes → 128 ≤ get_or bytes k 0) → varint_at most bytes ≡ None
unfolding varint_at
varint_none zero bytes high = refl
varint_none (suc most) [] high = refl
varint_none (suc most) (b ∷ bs) high =
    let first : 128 ≤ b = high 0 (omega arith) (omega arith) in
    let more : ltb b 128 ≡ false = grind (arith, nat_tests) in
    rw (more, varint_none most bs (λ k few within. high (suc k) (omega arith) (omega arith))) refl

back : (bytes : List ℕ) (i : ℕ) (high : Option (ℕ × List ℕ)) → i < length bytes → with_lows (take (suc i) bytes) high ≡
    with_lows (take i bytes) (with_low (get_or bytes i 0) high)
unfolding with_lows
back [] i high within = absurd (omega arith)
back (b ∷ bs) zero high within = refl
back (b ∷ bs) (suc i) high within = rw (back bs i high (omega arith)) refl

pub lows_back : (bytes : List ℕ) (i : ℕ) (high : Option (ℕ × List ℕ)) → 0 < i → i ≤ length bytes
    → with_lows (take i bytes) high ≡ with_lows (take (i - 1) bytes) (with_low (get_or bytes (i - 1) 0) high)
lows_back bytes zero high some within = absurd (omega arith)
lows_back bytes (suc i) high some within =
    let same : suc i - 1 ≡ i = omega arith in
    rw same (back bytes i high (omega arith))

pub no_lows : (bytes : List ℕ) (i : ℕ) (high : Option (ℕ × List ℕ)) → i ≤ 0 → with_lows (take i bytes) high ≡ high
unfolding with_lows
no_lows bytes zero high none = refl
no_lows bytes (suc i) high none = absurd (omega arith)

pub lows_none : (bytes : List ℕ) → with_lows bytes None ≡ None
unfolding with_lows with_low
lows_none [] = refl
lows_none (b ∷ bs) = rw (lows_none bs) refl

pub low_fits : (b number : ℕ) (rest : List ℕ) → 128 * number < 2 ^ 64 → with_low b (Some (number, rest)) ≡ Some (b % 128 + 128 * number, rest)
unfolding with_low
low_fits b number rest h =
    let fits : ltb (b % 128 + 128 * number) (2 ^ 64) ≡ true = let low : b % 128 + 128 * number < 2 ^ 64 = omega arith in grind (arith, nat_tests) in
    rw fits refl

pub low_none : (b number : ℕ) (rest : List ℕ) → 2 ^ 64 ≤ 128 * number → with_low b (Some (number, rest)) ≡ None
unfolding with_low
low_none b number rest h =
    let big : ltb (b % 128 + 128 * number) (2 ^ 64) ≡ false = let low : 2 ^ 64 ≤ b % 128 + 128 * number = omega arith in grind (arith, nat_tests) in
    rw big refl
