use Rattle.std.proofs.Common.{◌≤◌, ◌-◌}
use Rattle.osm_opl.proofs.NumberLemmas.{Digits}
use Rattle.osm_opl.proofs.plain.leading_digits.Given as goal

abbrev pub invariant-loop-count : goal.invariant-loop-count
invariant-loop-count l = record {
  digits : Digits 10 l.bytes 18446744073709551615 l.count l.number;
  few : l.count ≤ l.most;
}

abbrev pub decreases-loop-count : goal.decreases-loop-count
decreases-loop-count l = l.most - l.count
