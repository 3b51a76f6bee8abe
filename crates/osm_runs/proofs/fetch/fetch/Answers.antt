use Rattle.osm_store.specs.Frames.{IsKnown}
use Rattle.osm_runs.proofs.FetchLemmas.{has_state}
use Rattle.osm_runs.proofs.ResultLemmas.{same_err}
use Rattle.osm_runs.proofs.fetch.fetch.Goals as goal

pub returns-in_err-form-clause-stops : goal.returns-in_err-form-clause-stops
returns-in_err-form-clause-stops g c =
    same_err _ c.from_residual-in_err-form.result _ c.from_residual-in_err-form.ensures.1
    ((rw (c.read_state.ensures.frame.makes.known, c.read_state.ensures.frame.files) at c.in_err-form.ensures.stops) c.args.before
    (has_state (IsKnown (g.S.Store.state c.args.store.now)) c.args.dir.now (g.S.Store.state c.args.store.now).files c.args.before c.args.number
    c.in-Some.time (rw c.in-Some.is at c.in_ok-time.ensures.read).1 (rw c.in-Some.is at c.in_ok-time.ensures.read).2))
