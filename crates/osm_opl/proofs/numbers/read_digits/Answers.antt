use Rattle.std.proofs.Common.{arith, rules}
use Rattle.osm_opl.proofs.NumberLemmas.{no_numeral, digits_none, digits_many, digits_within}
use Rattle.osm_opl.proofs.numbers.read_digits.Goals as goal
use Rattle.osm_opl.proofs.numbers.read_digits.Goals.{then-is_empty-via-then-is_empty, then-is_empty-via-else-is_empty+then-bytes-most}

pub returns-then-is_empty : goal.returns-then-is_empty
returns-then-is_empty c =
    elim c.then-is_empty.branch [
      | then-is_empty-via-then-is_empty w ↦ no_numeral 18446744073709551615 10 c.args.most c.args.bytes.now
          (digits_none 10 c.args.most c.args.bytes.now (search rules))
      | then-is_empty-via-else-is_empty+then-bytes-most w ↦
          no_numeral 18446744073709551615 10 c.args.most c.args.bytes.now (digits_many 10 c.args.most c.args.bytes.now
          (omega arith))
    ]

pub returns-then-bytes-le-FITTING_DIGITS : goal.returns-then-bytes-le-FITTING_DIGITS
returns-then-bytes-le-FITTING_DIGITS c = rw (digits_within 10 c.args.most c.args.bytes.now (omega arith)) c.read_few_digits.ensures

pub returns-else-bytes-le-FITTING_DIGITS : goal.returns-else-bytes-le-FITTING_DIGITS
returns-else-bytes-le-FITTING_DIGITS c = rw (digits_within 10 c.args.most c.args.bytes.now (omega arith)) c.read_many_digits.ensures
