-- A number that is read is spelled, and what is spelled is read.
use Rattle.std.proofs.Common.{◌≡◌, ℕ, suc, ◌+◌, ◌-◌, ◌*◌, ◌^◌, ◌<◌, ◌≤◌, true, false, cond, List, [], ◌∷◌, ◌++◌, length}
use Rattle.std.proofs.Common.{Option, Some, None, refl, sym, ap, arith, lit≤}
use Rattle.std.specs.Prelude.{◌≢◌, ◌==◌, ℤ, pos, neg_ℤ, ◌≤ℤ◌, nat_le}
use Rattle.std.specs.Char.{digit_value}
use Rattle.std.specs.Str.Parse.{AllDigits, IsNumeral, digits_value}
use Rattle.std.proofs.lemmas.Bool.Decides.{nat_tests}
use Rattle.std.proofs.lemmas.Int.{ints}
use Rattle.std.proofs.lemmas.List.{length-append}
use Rattle.std.proofs.lemmas.Option.{same_Some}
use Rattle.osm_model.specs.Limits.{IsPositive, IsId}
use Rattle.osm_opl.specs.Number.{SpellsNumber, Signed, plain, minus, SpellsId}
use Rattle.osm_opl.specs.Coordinate.{SpellsUnits, whole, point, SpellsCoordinate}
use Rattle.osm_opl.specs.Reading.{digits_at, number_at, positive_at, signed_at, id_at, within, parts_at, units_at, coordinate_at}
use Rattle.osm_reading.specs.Answers.{and_then}
use Rattle.osm_reading.specs.Pieces.{cut_at}
use Rattle.osm_reading.proofs.StepLemmas.{some_then, guard_some, chosen}
use Rattle.osm_reading.specs.Pieces.{Lacks}
use Rattle.osm_reading.proofs.PieceLemmas.{cut_takes, cut_again, uncut_again, lacks_append}
use Rattle.osm_opl.proofs.NumberLemmas.{IsNumeralOf, digits_take, digits_again, each_digit, all_from_each}

-- a byte that isn't a digit occurs nowhere in digits
pub digits_lack : (radix s : ℕ) (bytes : List ℕ) → radix ≤ digit_value s → AllDigits radix bytes → Lacks s bytes
digits_lack radix s [] far h = tt
digits_lack radix s (b ∷ bs) far h =
    let lt : digit_value b < radix = h.0 in
    (λ same. let e : digit_value b ≡ digit_value s = ap digit_value same in omega arith, digits_lack radix s bs far h.1)

numeral_of : (radix most : ℕ) (bytes : List ℕ) (n : ℕ) → IsNumeralOf radix most bytes n → IsNumeral radix bytes
numeral_of radix most bytes n h = (h.some, each_digit radix bytes h.all)

of_numeral : (radix most : ℕ) (bytes : List ℕ) (n : ℕ) → IsNumeral radix bytes → length bytes ≤ most
    → n ≡ digits_value radix bytes → IsNumeralOf radix most bytes n
of_numeral radix most bytes n h short value = record { all = all_from_each radix bytes h.1; some = h.0; short = short; value = value }

-- ---- whole numbers

pub record TakesNumber (most : ℕ) (bytes : List ℕ) (n : ℕ) : Type 0 where
  pub spells : SpellsNumber bytes n
  pub limit : n ≤ most

pub number_takes : (most : ℕ) (bytes : List ℕ) (n : ℕ) → number_at most bytes ≡ Some n → TakesNumber most bytes n
unfolding number_at
number_takes most bytes n e =
    let x = some_then (digits_at 10 20 bytes) (λ (n : ℕ). cond (nat_le n most) (Some n) None) n e in
    let g = guard_some (nat_le x.0 most) (Some x.0) n x.2 in
    let t : IsNumeralOf 10 20 bytes x.0 = digits_take 10 20 bytes x.0 x.1 in
    let test : nat_le x.0 most ≡ true = g.0 in
    let same : x.0 ≡ n = same_Some x.0 n g.1 in
    let limit : x.0 ≤ most = grind (arith, nat_tests) in
    rw (← same) (record { spells = record { numeral = numeral_of 10 20 bytes x.0 t; short = t.short; value = t.value }; limit = limit })

pub number_again : (most : ℕ) (bytes : List ℕ) (n : ℕ) → SpellsNumber bytes n → n ≤ most → number_at most bytes ≡ Some n
unfolding number_at
number_again most bytes n h limit =
    let read : digits_at 10 20 bytes ≡ Some n = digits_again 10 20 bytes n (of_numeral 10 20 bytes n h.numeral h.short h.value) in
    let t : nat_le n most ≡ true = grind (arith, nat_tests) in
    rw (read, t) refl

pub record TakesPositive (bytes : List ℕ) (n : ℕ) : Type 0 where
  pub spells : SpellsNumber bytes n
  pub limits : IsPositive n

pub positive_takes : (bytes : List ℕ) (n : ℕ) → positive_at bytes ≡ Some n → TakesPositive bytes n
unfolding positive_at
positive_takes bytes n e =
    let x = some_then (number_at 4294967295 bytes) (λ (n : ℕ). cond (nat_le 1 n) (Some n) None) n e in
    let g = guard_some (nat_le 1 x.0) (Some x.0) n x.2 in
    let t : TakesNumber 4294967295 bytes x.0 = number_takes 4294967295 bytes x.0 x.1 in
    let test : nat_le 1 x.0 ≡ true = g.0 in
    let same : x.0 ≡ n = same_Some x.0 n g.1 in
    let limit : x.0 ≤ 4294967295 = t.limit in
    let low : 1 ≤ x.0 = grind (arith, nat_tests) in
    rw (← same) (record { spells = t.spells; limits = record { low = low; high = omega arith } })

pub positive_again : (bytes : List ℕ) (n : ℕ) → SpellsNumber bytes n → IsPositive n → positive_at bytes ≡ Some n
unfolding positive_at
positive_again bytes n h limits =
    let low : 1 ≤ n = limits.low in
    let high : n < 2 ^ 32 = limits.high in
    let t : nat_le 1 n ≡ true = grind (arith, nat_tests) in
    rw (number_again 4294967295 bytes n h (omega arith), t) refl

-- ---- with a sign

-- what has to hold for a reader of digits without a sign
pub record ReadsDigits (read : List ℕ → Option ℕ) (Spells : List ℕ → ℕ → Type 0) (most : ℕ) : Type 0 where
  pub takes : (bytes : List ℕ) (n : ℕ) → read bytes ≡ Some n → Spells bytes n
  pub limit : (bytes : List ℕ) (n : ℕ) → read bytes ≡ Some n → n ≤ most
  pub again : (bytes : List ℕ) (n : ℕ) → Spells bytes n → n ≤ most → read bytes ≡ Some n
  pub some : (bytes : List ℕ) (n : ℕ) → Spells bytes n → 0 < length bytes
  pub lacks : (s : ℕ) (bytes : List ℕ) (n : ℕ) → 10 ≤ digit_value s → s ≢ 46 → Spells bytes n → Lacks s bytes

pub record TakesSigned (Spells : List ℕ → ℕ → Type 0) (most : ℕ) (bytes : List ℕ) (z : ℤ) : Type 0 where
  pub spells : Signed Spells bytes z
  pub low : neg_ℤ (pos most) ≤ℤ z
  pub high : z ≤ℤ pos most

pub signed_takes : (read : List ℕ → Option ℕ) (Spells : List ℕ → ℕ → Type 0) (most : ℕ) → ReadsDigits read Spells most
    → (bytes : List ℕ) (z : ℤ) → signed_at read bytes ≡ Some z → TakesSigned Spells most bytes z
signed_takes read Spells most r [] z e = absurd cc
signed_takes read Spells most r (b ∷ bs) z e =
    chosen (b == 45) (and_then (read bs) (λ n. Some (neg_ℤ (pos n)))) (and_then (read (b ∷ bs)) (λ n. Some (pos n)))
    (Some z) e (TakesSigned Spells most (b ∷ bs) z)
    (λ t is.
    let x = some_then (read bs) (λ (n : ℕ). Some (neg_ℤ (pos n))) z is in
    let same : b ≡ 45 = grind (arith, nat_tests) in
    let value : neg_ℤ (pos x.0) ≡ z = same_Some (neg_ℤ (pos x.0)) z x.2 in
    let limit : x.0 ≤ most = r.limit bs x.0 x.1 in
    rw (same, ← value) (record { spells = minus bs x.0 (r.takes bs x.0 x.1); low = omega (arith, ints); high = omega (arith, ints) }))
    (λ f is.
    let x = some_then (read (b ∷ bs)) (λ (n : ℕ). Some (pos n)) z is in
    let value : pos x.0 ≡ z = same_Some (pos x.0) z x.2 in
    let limit : x.0 ≤ most = r.limit (b ∷ bs) x.0 x.1 in
    rw (← value) (record { spells = plain (b ∷ bs) x.0 (r.takes (b ∷ bs) x.0 x.1); low = omega (arith, ints); high = omega (arith, ints) }))

pub signed_again : (read : List ℕ → Option ℕ) (Spells : List ℕ → ℕ → Type 0) (most : ℕ) → ReadsDigits read Spells most
    → (bytes : List ℕ) (z : ℤ) → Signed Spells bytes z → neg_ℤ (pos most) ≤ℤ z → z ≤ℤ pos most
    → signed_at read bytes ≡ Some z
signed_again read Spells most r [] _ (plain _ n h) low high = absurd (let s : 0 < length {A = ℕ} [] = r.some [] n h in omega (arith, s))
signed_again read Spells most r (b ∷ bs) _ (plain _ n h) low high =
    let lacks : Lacks 45 (b ∷ bs) = r.lacks 45 (b ∷ bs) n (lit≤ tt) (λ e. omega (arith, e)) h in
    let other : b ≢ 45 = lacks.0 in
    let t : (b == 45) ≡ false = grind (arith, nat_tests) in
    rw (t, r.again (b ∷ bs) n h (omega (arith, ints, high))) refl
signed_again read Spells most r _ _ (minus bs n h) low high =
    rw (r.again bs n h (omega (arith, ints, low))) refl

pub signed_lacks : (read : List ℕ → Option ℕ) (Spells : List ℕ → ℕ → Type 0) (most : ℕ) → ReadsDigits read Spells most
    → (s : ℕ) (bytes : List ℕ) (z : ℤ) → 10 ≤ digit_value s → s ≢ 46 → s ≢ 45 → Signed Spells bytes z → Lacks s bytes
signed_lacks read Spells most r s _ _ far n46 n45 (plain bytes n h) = r.lacks s bytes n far n46 h
signed_lacks read Spells most r s _ _ far n46 n45 (minus bytes n h) = (λ e. n45 (sym e), r.lacks s bytes n far n46 h)

pub numbers_read : (most : ℕ) → ReadsDigits (number_at most) SpellsNumber most
numbers_read most = record {
  takes = λ bytes n e. (number_takes most bytes n e).spells;
  limit = λ bytes n e. (number_takes most bytes n e).limit;
  again = number_again most;
  some = λ bytes n h. h.numeral.0;
  lacks = λ s bytes n far other h. digits_lack 10 s bytes far h.numeral.1;
}

pub record TakesId (bytes : List ℕ) (id : ℤ) : Type 0 where
  pub spells : SpellsId bytes id
  pub limits : IsId id

pub id_takes : (bytes : List ℕ) (id : ℤ) → id_at bytes ≡ Some id → TakesId bytes id
unfolding id_at
id_takes bytes id e =
    let t = signed_takes (number_at 4611686018427387903) SpellsNumber 4611686018427387903 (numbers_read 4611686018427387903) bytes id e in
    record { spells = t.spells; limits = record { low = t.low; high = t.high } }

pub id_again : (bytes : List ℕ) (id : ℤ) → SpellsId bytes id → IsId id → id_at bytes ≡ Some id
unfolding id_at
id_again bytes id h limits = signed_again (number_at 4611686018427387903) SpellsNumber 4611686018427387903
    (numbers_read 4611686018427387903) bytes id h limits.low limits.high

pub id_lacks : (s : ℕ) (bytes : List ℕ) (id : ℤ) → 10 ≤ digit_value s → s ≢ 46 → s ≢ 45 → SpellsId bytes id → Lacks s bytes
id_lacks s bytes id far n46 n45 h = signed_lacks (number_at 1) SpellsNumber 1 (numbers_read 1) s bytes id far n46 n45 h

-- ---- coordinates

within_some : (most n m : ℕ) → within most n ≡ Some m → (n ≡ m) × (n ≤ most)
within_some most n m e =
    let g = guard_some (nat_le n most) (Some n) m e in
    let t : nat_le n most ≡ true = g.0 in
    (same_Some n m g.1, grind (arith, nat_tests))

pub record TakesUnits (most : ℕ) (bytes : List ℕ) (n : ℕ) : Type 0 where
  pub spells : SpellsUnits bytes n
  pub limit : n ≤ most

parts_take : (most : ℕ) (bytes : List ℕ) (n : ℕ) (r : Option (List ℕ × List ℕ)) → cut_at 46 bytes ≡ r → parts_at most bytes r ≡ Some n → TakesUnits most bytes n
parts_take most bytes n None cut e =
    let x = some_then (digits_at 10 3 bytes) (λ (d : ℕ). within most (d * 10 ^ 7)) n e in
    let t : IsNumeralOf 10 3 bytes x.0 = digits_take 10 3 bytes x.0 x.1 in
    let w = within_some most (x.0 * 10 ^ 7) n x.2 in
    let value : x.0 ≡ digits_value 10 bytes = t.value in
    let is : digits_value 10 bytes * 10 ^ 7 ≡ n = rw (← value) w.0 in
    let same : x.0 * 10 ^ 7 ≡ n = w.0 in
    let limit : x.0 * 10 ^ 7 ≤ most = w.1 in
    record { spells = rw (← is) (whole bytes (numeral_of 10 3 bytes x.0 t) t.short); limit = omega arith }
parts_take most bytes n (Some c) cut e =
    let x = some_then (digits_at 10 3 c.0) (λ (d : ℕ). and_then {A = ℕ} {B = ℕ} (digits_at 10 7 c.1)
    (λ f. within most (d * 10 ^ 7 + f * 10 ^ (7 - length c.1)))) n e in
    let y = some_then (digits_at 10 7 c.1) (λ (f : ℕ). within most (x.0 * 10 ^ 7 + f * 10 ^ (7 - length c.1))) n x.2 in
    let t : IsNumeralOf 10 3 c.0 x.0 = digits_take 10 3 c.0 x.0 x.1 in
    let u : IsNumeralOf 10 7 c.1 y.0 = digits_take 10 7 c.1 y.0 y.1 in
    let w = within_some most (x.0 * 10 ^ 7 + y.0 * 10 ^ (7 - length c.1)) n y.2 in
    let parts : bytes ≡ c.0 ++ 46 ∷ c.1 = cut_takes 46 bytes c.0 c.1 cut in
    let a : x.0 ≡ digits_value 10 c.0 = t.value in
    let b : y.0 ≡ digits_value 10 c.1 = u.value in
    let is : digits_value 10 c.0 * 10 ^ 7 + digits_value 10 c.1 * 10 ^ (7 - length c.1) ≡ n = rw (← a, ← b) w.0 in
    let limit : n ≤ most = rw w.0 at w.1 in
    record { spells = rw (parts, ← is) (point c.0 c.1 (numeral_of 10 3 c.0 x.0 t) t.short (numeral_of 10 7 c.1 y.0 u) u.short); limit = limit }

pub units_take : (most : ℕ) (bytes : List ℕ) (n : ℕ) → units_at most bytes ≡ Some n → TakesUnits most bytes n
unfolding units_at
units_take most bytes n e = parts_take most bytes n (cut_at 46 bytes) refl e

within_again : (most n : ℕ) → n ≤ most → within most n ≡ Some n
within_again most n h = let t : nat_le n most ≡ true = grind (arith, nat_tests) in rw t refl

pub units_again : (most : ℕ) (bytes : List ℕ) (n : ℕ) → SpellsUnits bytes n → n ≤ most → units_at most bytes ≡ Some n
unfolding units_at
units_again most _ _ (whole ds numeral short) limit =
    let cut : cut_at 46 ds ≡ None = uncut_again 46 ds (digits_lack 10 46 ds (lit≤ tt) numeral.1) in
    let read : digits_at 10 3 ds ≡ Some (digits_value 10 ds) = digits_again 10 3 ds (digits_value 10 ds)
    (of_numeral 10 3 ds (digits_value 10 ds) numeral short refl) in
    rw (cut, read) (within_again most (digits_value 10 ds * 10 ^ 7) limit)
units_again most _ _ (point ds fs numeral short decimals few) limit =
    let cut : cut_at 46 (ds ++ 46 ∷ fs) ≡ Some (ds, fs) = cut_again 46 ds fs (digits_lack 10 46 ds (lit≤ tt) numeral.1) in
    let read : digits_at 10 3 ds ≡ Some (digits_value 10 ds) = digits_again 10 3 ds (digits_value 10 ds)
    (of_numeral 10 3 ds (digits_value 10 ds) numeral short refl) in
    let more : digits_at 10 7 fs ≡ Some (digits_value 10 fs) = digits_again 10 7 fs (digits_value 10 fs)
    (of_numeral 10 7 fs (digits_value 10 fs) decimals few refl) in
    rw (cut, read, more) (within_again most (digits_value 10 ds * 10 ^ 7 + digits_value 10 fs * 10 ^ (7 - length fs)) limit)

units_some : (bytes : List ℕ) (n : ℕ) → SpellsUnits bytes n → 0 < length bytes
units_some _ _ (whole ds numeral short) = numeral.0
units_some _ _ (point ds fs numeral short decimals few) = let l : length (ds ++ 46 ∷ fs) ≡ length ds + suc (length fs) =
    length-append ds (46 ∷ fs) in omega arith

units_lack : (s : ℕ) (bytes : List ℕ) (n : ℕ) → 10 ≤ digit_value s → s ≢ 46 → SpellsUnits bytes n → Lacks s bytes
units_lack s _ _ far other (whole ds numeral short) = digits_lack 10 s ds far numeral.1
units_lack s _ _ far other (point ds fs numeral short decimals few) =
    lacks_append s ds (46 ∷ fs) (digits_lack 10 s ds far numeral.1) (
      λ e. other (sym e),
      digits_lack 10 s fs far decimals.1,
    )

pub units_read : (most : ℕ) → ReadsDigits (units_at most) SpellsUnits most
units_read most = record {
  takes = λ bytes n e. (units_take most bytes n e).spells;
  limit = λ bytes n e. (units_take most bytes n e).limit;
  again = units_again most;
  some = units_some;
  lacks = units_lack;
}

pub coordinate_takes : (most : ℕ) (bytes : List ℕ) (z : ℤ) → coordinate_at most bytes ≡ Some z → TakesSigned SpellsUnits most bytes z
unfolding coordinate_at
coordinate_takes most bytes z e = signed_takes (units_at most) SpellsUnits most (units_read most) bytes z e

pub coordinate_again : (most : ℕ) (bytes : List ℕ) (z : ℤ) → SpellsCoordinate bytes z → neg_ℤ (pos most) ≤ℤ z
    → z ≤ℤ pos most → coordinate_at most bytes ≡ Some z
unfolding coordinate_at
coordinate_again most bytes z h low high = signed_again (units_at most) SpellsUnits most (units_read most) bytes z h low high

pub coordinate_lacks : (s : ℕ) (bytes : List ℕ) (z : ℤ) → 10 ≤ digit_value s → s ≢ 46 → s ≢ 45 → SpellsCoordinate bytes z → Lacks s bytes
coordinate_lacks s bytes z far n46 n45 h = signed_lacks (units_at 1) SpellsUnits 1 (units_read 1) s bytes z far n46 n45 h
