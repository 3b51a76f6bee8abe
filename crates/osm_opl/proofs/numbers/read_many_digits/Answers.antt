use Rattle.std.proofs.Common.{◌≡◌, length, get_or, ◌-◌, refl, arith, rules, true}
use Rattle.std.specs.Char.{is_ascii_digit}
use Rattle.osm_opl.proofs.NumberLemmas.{no_numeral, no_decimal, one_digit, digits_done}
use Rattle.osm_opl.proofs.numbers.read_many_digits.Goals as goal

pub returns-then-not-is_ascii_digit : goal.returns-then-not-is_ascii_digit
returns-then-not-is_ascii_digit c =
    no_numeral 18446744073709551615 10 (length c.args.bytes.now) c.args.bytes.now
    (no_decimal (length c.args.bytes.now) c.args.bytes.now c.loop-byte.byte-index (omega arith) (search rules))

pub loop-byte-preserved : goal.loop-byte-preserved
loop-byte-preserved c =
    let digit : is_ascii_digit (get_or c.args.bytes.now c.loop-byte.byte-index 0) ≡ true = search rules in
    let next = one_digit c.args.bytes.now 18446744073709551615 c.loop-byte.byte-index c.loop-byte.number
    (get_or c.args.bytes.now c.loop-byte.byte-index 0 - 48) (omega arith) c.loop-byte.invariant digit refl in
    rw (c.saturating_add-number.ensures, c.saturating_mul.ensures) next

pub returns : goal.returns
returns c =
    digits_done 10 (length c.args.bytes.now) c.args.bytes.now 18446744073709551615 c.loop-byte.number
    c.loop-byte.byte-index (omega arith) c.requires (omega arith) c.loop-byte.invariant
