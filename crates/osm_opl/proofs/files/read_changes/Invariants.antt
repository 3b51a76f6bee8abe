use Rattle.std.proofs.Common.{◌≤◌, ◌+◌, length}
use Rattle.osm_reading.specs.Lines.{lines_after}
use Rattle.osm_opl.proofs.FileLaws.{LinesRead}
use Rattle.osm_reading.proofs.PieceLemmas.{bytes_left}
use Rattle.osm_opl.proofs.files.read_changes.Given as goal

abbrev pub invariant-loop-rest : goal.invariant-loop-rest
invariant-loop-rest g l = record {
  read : LinesRead g.F.FileLimits.limits l.bytes (lines_after l.rest) l.changes.items l.place;
  bound : l.place + bytes_left l.rest ≤ length l.bytes + 1;
}

abbrev pub decreases-loop-rest : goal.decreases-loop-rest
decreases-loop-rest g l = bytes_left l.rest
