use Rattle.std.specs.Char.{digit_value}
use Rattle.std.specs.Prelude.{nat_lt, false}
use Rattle.std.proofs.Common.{◌≡◌, ◌<◌, ◌≤◌, length, get_or, arith, rules}
use Rattle.std.proofs.lemmas.Bool.Decides.{nat_tests}
use Rattle.osm_opl.proofs.NumberLemmas.{no_numeral, digits_none, digits_many, digits_done, not_digits, one_hex_digit}
use Rattle.osm_opl.proofs.escapes.read_hex.Goals as goal
use Rattle.osm_opl.proofs.escapes.read_hex.Goals.{then-is_empty-via-then-is_empty, then-is_empty-via-else-is_empty+then-digits-gt8}

pub returns-then-is_empty : goal.returns-then-is_empty
returns-then-is_empty c =
    elim c.then-is_empty.branch [
      | then-is_empty-via-then-is_empty w ↦ no_numeral 4294967295 16 8 c.args.digits.now (digits_none 16 8 c.args.digits.now (search rules))
      | then-is_empty-via-else-is_empty+then-digits-gt8 w ↦ no_numeral 4294967295 16 8 c.args.digits.now (digits_many 16 8 c.args.digits.now (omega arith))
    ]

pub returns-in_default : goal.returns-in_default
returns-in_default c =
    let far : ¬ (digit_value (get_or c.args.digits.now c.loop-byte.byte-index 0) < 16) = search rules in
    let test : nat_lt (digit_value (get_or c.args.digits.now c.loop-byte.byte-index 0)) 16 ≡ false = grind (arith, nat_tests) in
    no_numeral 4294967295 16 8 c.args.digits.now (not_digits 16 8 c.args.digits.now c.loop-byte.byte-index (omega arith) test)

pub loop-byte-preserved : goal.loop-byte-preserved
loop-byte-preserved c =
    let next = one_hex_digit c.args.digits.now 4294967295 c.loop-byte.byte-index c.loop-byte.number c.in-Some.digit
    (omega arith) c.loop-byte.invariant (search rules) (search rules) in
    rw (c.saturating_add-number.ensures, c.saturating_mul.ensures) next

pub returns : goal.returns
returns c =
    let some : 1 ≤ length c.args.digits.now = grind (arith, nat_tests) in
    digits_done 16 8 c.args.digits.now 4294967295 c.loop-byte.number c.loop-byte.byte-index (omega arith) some (omega arith) c.loop-byte.invariant
