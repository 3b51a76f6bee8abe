use Rattle.osm_exporting.proofs.copy.append.Goals as goal
use Rattle.osm_runs.proofs.FillLemmas.{fills_by}

pub returns-in-Ok-clause-appended : goal.returns-in-Ok-clause-appended
returns-in-Ok-clause-appended g c = λ rest.
    fills_by (g.S.Store.state c.args.store.now) (g.S.Store.state c.append.new.self) c.args.bytes.now rest c.in-Ok.ensures.appended
