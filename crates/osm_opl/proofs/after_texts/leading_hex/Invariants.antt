use Rattle.std.proofs.Common.{◌≤◌, ◌-◌}
use Rattle.osm_opl.proofs.BeginTextLemmas.{HexRead}
use Rattle.osm_opl.proofs.after_texts.leading_hex.Given as goal

abbrev pub invariant-loop-count : goal.invariant-loop-count
invariant-loop-count l = record {
  read : HexRead l.bytes l.code l.count;
  few : l.count ≤ l.most;
}

abbrev pub decreases-loop-count : goal.decreases-loop-count
decreases-loop-count l = l.most - l.count
