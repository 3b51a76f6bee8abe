-- The sum is taken with the remainder of the difference by 2^32.
use Rattle.std.proofs.Common.{arith, w64, ◌≡◌, pos}
use Rattle.std.specs.Int.{int_rem_euclid}
use Rattle.std.proofs.lemmas.Int.{ints, to_z-of_z}
use Rattle.osm_o5c.proofs.WrapLemmas.{wrapped_high, wrapped_low}
use Rattle.osm_o5c.proofs.counters.wrapped.Goals as goal

pub returns-then-sum : goal.returns-then-sum
returns-then-sum c =
    let r : c.rem_euclid.result ≡ int_rem_euclid c.args.difference (pos 4294967296) =
    rw (to_z-of_z w64 c.args.difference c.ranges.difference) at c.rem_euclid.ensures.value in
    wrapped_high _ c.args.counter c.args.difference (rw (← r) (omega (arith, ints))) (omega (arith, ints)) (omega (arith, ints))

pub returns-else-sum : goal.returns-else-sum
returns-else-sum c =
    let r : c.rem_euclid.result ≡ int_rem_euclid c.args.difference (pos 4294967296) =
    rw (to_z-of_z w64 c.args.difference c.ranges.difference) at c.rem_euclid.ensures.value in
    wrapped_low _ c.args.counter c.args.difference (rw (← r) (omega (arith, ints))) (omega (arith, ints)) (omega (arith, ints))
