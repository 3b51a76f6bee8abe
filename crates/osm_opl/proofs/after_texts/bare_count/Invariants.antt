use Rattle.std.proofs.Common.{◌≡◌, ◌≤◌, ◌-◌, take, true}
use Rattle.std.specs.List.{list_all}
use Rattle.osm_opl.specs.Written.{is_written_bare}
use Rattle.osm_opl.proofs.after_texts.bare_count.Given as goal

abbrev pub invariant-loop-count : goal.invariant-loop-count
invariant-loop-count l = record {
  bare : list_all is_written_bare (take l.count l.bytes) ≡ true;
  few : l.count ≤ l.most;
}

abbrev pub decreases-loop-count : goal.decreases-loop-count
decreases-loop-count l = l.most - l.count
