use Rattle.osm_blocks.specs.Places.{left_of}
use Rattle.osm_save.specs.Head.{most_counted}
use Rattle.osm_merge.specs.Mirrors.{both_at}
use Rattle.osm_exporting.proofs.ObjectLemmas.{advances_still, advances_told, line_stops}
use Rattle.osm_exporting.proofs.objects.pass_rest.Goals as goal

pub returns-in-Ok-clause-calls : goal.returns-in-Ok-clause-calls
returns-in-Ok-clause-calls g c = λ file has.
    advances_still (g.S.Store.state c.args.store.now) (g.S.Store.state c.pass_rest.new.store) tt (c.in-Ok.ensures.calls file has)

pub returns-in-Err-clause-stops : goal.returns-in-Err-clause-stops
returns-in-Err-clause-stops g c =
    rw c.read_fault.ensures
    (line_stops (g.S.Store.state c.args.store.now) c.args.save.now
    (λ file. both_at (most_counted c.args.opening.now.head) (left_of c.args.objects.now.source file)) c.in-Err.fault c.in-Err.ensures.refused)

pub returns-in-Err-clause-calls : goal.returns-in-Err-clause-calls
returns-in-Err-clause-calls g c = λ file has.
    rw c.read_fault.ensures
    (advances_told (g.S.Store.state c.args.store.now) (g.S.Store.state c.pass_rest.new.store) c.in-Err.fault (c.in-Err.ensures.calls file has))
