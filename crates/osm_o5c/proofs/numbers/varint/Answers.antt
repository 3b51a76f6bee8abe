use Rattle.std.proofs.Common.{arith, ◌≡◌, ◌+◌, ◌-◌, ◌*◌, ◌%◌, ◌<◌, length, take, get_or, drop, Some, refl}
use Rattle.osm_o5c.specs.NumberReading.{varint_at}
use Rattle.osm_o5c.proofs.VarintLemmas.{with_lows, varint_is, lows_back, no_lows, lows_none, low_fits, low_none}
use Rattle.osm_o5c.proofs.numbers.varint.Goals as goal

pub loop-index-init : goal.loop-index-init
loop-index-init c =
    let last = c.in-Ok.ensures.last in
    varint_is 10 c.args.bytes.now c.in-Ok.last last.few last.within last.high last.low

pub returns-in_default-checked_mul-clause-none : goal.returns-in_default-checked_mul-clause-none
returns-in_default-checked_mul-clause-none c _ =
    let bytes = c.args.bytes.now in
    let i = c.loop-index.index in
    let rest = drop (c.in-Ok.last + 1) bytes in
    let last : c.in-Ok.last < length bytes = c.in-Ok.ensures.last.within in
    let now : varint_at 10 bytes ≡ with_lows (take i bytes) (Some (c.loop-index.number, rest)) = c.loop-index.invariant in
    rw (
      now,
      lows_back bytes i (Some (c.loop-index.number, rest)) c.loop-index-test.true (omega arith),
      low_none (get_or bytes (i - 1) 0) c.loop-index.number rest (omega arith),
    ) (lows_none (take (i - 1) bytes))

pub loop-index-preserved : goal.loop-index-preserved
loop-index-preserved c =
    let bytes = c.args.bytes.now in
    let i = c.loop-index.index in
    let b = get_or bytes (i - 1) 0 in
    let rest = drop (c.in-Ok.last + 1) bytes in
    let last : c.in-Ok.last < length bytes = c.in-Ok.ensures.last.within in
    let now : varint_at 10 bytes ≡ with_lows (take i bytes) (Some (c.loop-index.number, rest)) = c.loop-index.invariant in
    let shifted : c.in-Some.shifted ≡ c.loop-index.number * 128 = c.in-Some.ensures.1 in
    let sum : c.in-Some.shifted + b % 128 ≡ b % 128 + 128 * c.loop-index.number = omega arith in
    rw (
      now,
      lows_back bytes i (Some (c.loop-index.number, rest)) c.loop-index-test.true (omega arith),
      low_fits b c.loop-index.number rest (omega (arith, c.in-Some.ensures.0)),
      sum,
    ) refl

pub returns-clause-some : goal.returns-clause-some
returns-clause-some c _ =
    let bytes = c.args.bytes.now in
    let now : varint_at 10 bytes ≡ with_lows (take c.loop-index.index bytes)
    (Some (c.loop-index.number, drop (c.in-Ok.last + 1) bytes)) = c.loop-index.invariant in
    rw (
      now,
      no_lows bytes c.loop-index.index (Some (c.loop-index.number, drop (c.in-Ok.last + 1) bytes))
          c.loop-index-test.false,
    ) refl
