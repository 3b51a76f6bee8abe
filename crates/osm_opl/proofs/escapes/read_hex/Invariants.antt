use Rattle.osm_opl.proofs.NumberLemmas.{Digits}
use Rattle.osm_opl.proofs.escapes.read_hex.Given as goal

abbrev pub invariant-loop-byte : goal.invariant-loop-byte
invariant-loop-byte l = Digits 16 l.digits 4294967295 l.byte-index l.number
