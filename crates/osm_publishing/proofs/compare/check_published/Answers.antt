use Rattle.osm_store.specs.Frames.{IsKnown}
use Rattle.osm_publishing.proofs.CompareLemmas.{o5c_stops, opl_stops}
use Rattle.osm_runs.proofs.ResultLemmas.{same_err}
use Rattle.osm_publishing.proofs.compare.check_published.Goals as goal

pub returns-in_err-o5c-clause-stops : goal.returns-in_err-o5c-clause-stops
returns-in_err-o5c-clause-stops g c =
    same_err _ c.from_residual-in_err-o5c.result _ c.from_residual-in_err-o5c.ensures.1
    (o5c_stops (IsKnown (g.S.Store.state c.args.store.now)) c.args.dir.now (g.S.Store.state c.args.store.now).files
    (record { number = c.args.number; changes = c.args.batch.now; time = c.args.time }) _
    (rw (c.check_state.ensures.frame.makes.known, c.check_state.ensures.frame.files) at c.in_err-o5c.ensures.stops))

pub returns-in_err-opl-clause-stops : goal.returns-in_err-opl-clause-stops
returns-in_err-opl-clause-stops g c =
    same_err _ c.from_residual-in_err-opl.result _ c.from_residual-in_err-opl.ensures.1
    (opl_stops (IsKnown (g.S.Store.state c.args.store.now)) c.args.dir.now (g.S.Store.state c.args.store.now).files
    (record { number = c.args.number; changes = c.args.batch.now; time = c.args.time }) _
    (rw (
      c.check_changes.ensures.frame.makes.known,
      c.check_changes.ensures.frame.files,
      c.check_state.ensures.frame.makes.known,
      c.check_state.ensures.frame.files,
    ) at c.in_err-opl.ensures.stops))
