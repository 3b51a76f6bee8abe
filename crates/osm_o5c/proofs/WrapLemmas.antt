-- Sums in 32 bits.
use Rattle.std.proofs.Common.{◌≡◌, ◌/◌, sym, arith}
use Rattle.std.specs.Prelude.{ℤ, pos, negsuc, neg_ℤ, ◌+ℤ◌, ◌*ℤ◌, ◌≤ℤ◌}
use Rattle.std.specs.Int.{int_rem_euclid}
use Rattle.std.proofs.lemmas.Int.{ints}
use Rattle.osm_o5c.specs.Context.{IsWrapped}
use Rattle.osm_o5c.specs.NumberReading.{wrapped_of}

-- a number and its remainder differ by a multiple of 2^32
multiple_of : (z : ℤ) → (t : ℤ) × (z ≡ int_rem_euclid z (pos 4294967296) +ℤ pos 4294967296 *ℤ t)
multiple_of (pos a) = (pos (a / 4294967296), omega (arith, ints))
multiple_of (negsuc a) = (negsuc (a / 4294967296), omega (arith, ints))

rest_low : (z : ℤ) → pos 0 ≤ℤ int_rem_euclid z (pos 4294967296)
rest_low (pos a) = omega (arith, ints)
rest_low (negsuc a) = omega (arith, ints)

rest_high : (z : ℤ) → int_rem_euclid z (pos 4294967296) ≤ℤ pos 4294967295
rest_high (pos a) = omega (arith, ints)
rest_high (negsuc a) = omega (arith, ints)

pub wrapped_is : (sum : ℤ) → IsWrapped (wrapped_of sum) sum
unfolding wrapped_of
wrapped_is sum =
    let t : (t : ℤ) × (sum +ℤ pos 2147483648 ≡ int_rem_euclid (sum +ℤ pos 2147483648) (pos 4294967296) +ℤ pos 4294967296
    *ℤ t) = multiple_of (sum +ℤ pos 2147483648) in
    let low = rest_low (sum +ℤ pos 2147483648) in
    let high = rest_high (sum +ℤ pos 2147483648) in
    record {
      multiple = t.0;
      low = omega (arith, ints);
      high = omega (arith, ints);
      differs = omega (arith, ints, t.1);
    }

-- a sum has one value in 32 bits
pub one_wrapped : (v w sum : ℤ) → IsWrapped v sum → IsWrapped w sum → v ≡ w
one_wrapped v w sum a b = omega (arith, ints, a.low, a.high, a.differs, b.low, b.high, b.differs)

pub wrapped_same : (v sum : ℤ) → IsWrapped v sum → wrapped_of sum ≡ v
wrapped_same v sum w = one_wrapped (wrapped_of sum) v sum (wrapped_is sum) w

-- adding a difference to the sum in 32 bits is the same as adding it to the sum itself
pub wrapped_more : (sum d : ℤ) → wrapped_of (wrapped_of sum +ℤ d) ≡ wrapped_of (sum +ℤ d)
wrapped_more sum d =
    let a : IsWrapped (wrapped_of sum) sum = wrapped_is sum in
    let b : IsWrapped (wrapped_of (wrapped_of sum +ℤ d)) (wrapped_of sum +ℤ d) = wrapped_is (wrapped_of sum +ℤ d) in
    sym (wrapped_same (wrapped_of (wrapped_of sum +ℤ d)) (sum +ℤ d) (record {
      multiple = a.multiple +ℤ b.multiple;
      low = b.low;
      high = b.high;
      differs = omega (arith, ints, a.differs, b.differs);
    }))

-- what the code computes from the remainder
pub wrapped_high : (v counter d : ℤ) → v +ℤ pos 4294967296 ≡ counter +ℤ int_rem_euclid d (pos 4294967296)
    → neg_ℤ (pos 2147483648) ≤ℤ v → v ≤ℤ pos 2147483647 → v ≡ wrapped_of (counter +ℤ d)
wrapped_high v counter d e low high =
    let t : (t : ℤ) × (d ≡ int_rem_euclid d (pos 4294967296) +ℤ pos 4294967296 *ℤ t) = multiple_of d in
    sym (wrapped_same v (counter +ℤ d) (record { multiple = t.0 +ℤ pos 1; low = low; high = high; differs = omega (arith, ints, t.1) }))

pub wrapped_low : (v counter d : ℤ) → v ≡ counter +ℤ int_rem_euclid d (pos 4294967296) → neg_ℤ (pos 2147483648) ≤ℤ v
    → v ≤ℤ pos 2147483647 → v ≡ wrapped_of (counter +ℤ d)
wrapped_low v counter d e low high =
    let t : (t : ℤ) × (d ≡ int_rem_euclid d (pos 4294967296) +ℤ pos 4294967296 *ℤ t) = multiple_of d in
    sym (wrapped_same v (counter +ℤ d) (record { multiple = t.0; low = low; high = high; differs = omega (arith, ints, t.1) }))
