use Rattle.osm_opl.proofs.NumberLemmas.{Digits}
use Rattle.osm_opl.proofs.numbers.read_many_digits.Given as goal

abbrev pub invariant-loop-byte : goal.invariant-loop-byte
invariant-loop-byte l = Digits 10 l.bytes 18446744073709551615 l.byte-index l.number
