use Rattle.std.proofs.Common.{◌≤◌, ◌-◌}
use Rattle.osm_opl.specs.Steps.Begins.{BeginsChars}
use Rattle.osm_opl.proofs.after_texts.after_escaped.Given as goal

abbrev pub invariant-loop-room : goal.invariant-loop-room
invariant-loop-room l = record {
  part : BeginsChars l.bytes l.rest (1020 - l.room);
  few : l.room ≤ 1020;
}

abbrev pub decreases-loop-room : goal.decreases-loop-room
decreases-loop-room l = l.room
