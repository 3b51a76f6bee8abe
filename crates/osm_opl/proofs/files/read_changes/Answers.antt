use Rattle.std.proofs.Common.{arith, ◌+◌, ◌≤◌, length}
use Rattle.osm_reading.specs.Lines.{lines_after}
use Rattle.osm_opl.proofs.FileLaws.{line_added, line_stops, lines_begun}
use Rattle.osm_reading.proofs.PieceLemmas.{bytes_left, less_left}
use Rattle.osm_opl.proofs.files.read_changes.Goals as goal

pub loop-rest-init : goal.loop-rest-init
loop-rest-init g c = record {
  read = rw c.new-changes.ensures.items (lines_begun g.F.FileLimits.limits c.laws.ensures c.args.bytes.now);
  bound = omega arith;
}

pub returns-in-Err-clause-refused : goal.returns-in-Err-clause-refused
returns-in-Err-clause-refused g c =
    line_stops g.F.FileLimits.limits c.laws.ensures c.args.bytes.now (lines_after c.loop-rest.rest)
    (lines_after c.split_line.result.1) c.split_line.result.0.now c.loop-rest.changes.items c.loop-rest.place c.in-Err.error
    (omega arith) c.loop-rest.invariant.read (rw c.in-Some.is c.split_line.ensures.lines) c.in-Err.ensures.refused

pub loop-rest-preserved : goal.loop-rest-preserved
loop-rest-preserved g c =
    let left : bytes_left c.split_line.result.1 ≤ length c.in-Some.lines.now =
    less_left c.split_line.result.1 (length c.in-Some.lines.now) c.split_line.ensures.shorter in
    let bound : c.loop-rest.place + bytes_left c.loop-rest.rest ≤ length c.args.bytes.now + 1 = c.loop-rest.invariant.bound in
    let before = rw c.in-Some.is at bound in
    record {
      read = line_added g.F.FileLimits.limits c.args.bytes.now (lines_after c.loop-rest.rest)
          (lines_after c.split_line.result.1) c.split_line.result.0.now c.loop-rest.changes.items c.add_line.new.changes.items
          c.loop-rest.place c.loop-rest.invariant.read (rw c.in-Some.is c.split_line.ensures.lines) c.in-Ok.ensures.ok
          c.in-Ok.ensures.right;
      bound = omega arith;
    }
