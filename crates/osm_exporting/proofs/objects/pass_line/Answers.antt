use Rattle.std.proofs.Common.{rules}
use Rattle.osm_exporting.specs.Steps.Copying.{ahead_in}
use Rattle.osm_exporting.proofs.ObjectLemmas.{advances_still, advances_told, line_stops}
use Rattle.osm_exporting.proofs.objects.pass_line.Goals as goal

pub returns-in-Ok-clause-reads : goal.returns-in-Ok-clause-reads
returns-in-Ok-clause-reads g c = record {
  stage = c.in-Ok.ensures.stage;
  frame = search rules;
  calls = λ file has.
      advances_still (g.S.Store.state c.args.store.now) (g.S.Store.state c.pass_line.new.store) c.in-Ok.is_passed (c.in-Ok.ensures.calls file has);
}

pub returns-in-Err-clause-stops : goal.returns-in-Err-clause-stops
returns-in-Err-clause-stops g c =
    rw c.read_fault.ensures
    (line_stops (g.S.Store.state c.args.store.now) c.args.save.now
    (λ file. ahead_in c.args.filter.now c.args.objects.now file) c.in-Err.fault c.in-Err.ensures.refused)

pub returns-in-Err-clause-reads : goal.returns-in-Err-clause-reads
returns-in-Err-clause-reads g c = record {
  stage = c.in-Err.ensures.stage;
  frame = search rules;
  calls = λ file has.
      rw c.read_fault.ensures
      (advances_told (g.S.Store.state c.args.store.now) (g.S.Store.state c.pass_line.new.store) c.in-Err.fault (c.in-Err.ensures.calls file has));
}
