use Rattle.std.proofs.Common.{◌∙◌}
use Rattle.osm_store.specs.Frames.{IsKnown}
use Rattle.osm_runs.specs.Steps.Following.{IsFetched}
use Rattle.osm_runs.proofs.FetchLemmas.{deliver_stops, has_files, size_is}
use Rattle.osm_runs.proofs.ResultLemmas.{same_err}
use Rattle.osm_runs.proofs.number.read_number.Goals as goal

pub returns-in_err-changes-clause-stops : goal.returns-in_err-changes-clause-stops
returns-in_err-changes-clause-stops g c =
    same_err _ c.from_residual-in_err-changes.result _ c.from_residual-in_err-changes.ensures.1
    (deliver_stops (IsKnown (g.S.Store.state c.args.store.now)) c.args.dir.now (g.S.Store.state c.args.store.now).files
    c.args.before c.args.number c.in-Some.fetched.time c.in-Some.fetched.form c.in-Some.fetched.changes.items _
    (rw c.in-Some.is at c.in_ok-fetched.ensures.fetched) c.in_err-changes.ensures.stops)

pub returns-clause-read : goal.returns-clause-read
returns-clause-read g c =
    let fetched : IsFetched (IsKnown (g.S.Store.state c.args.store.now)) (g.S.Store.state c.args.store.now).files c.args.dir.now
    c.args.before c.args.number c.in-Some.fetched.time c.in-Some.fetched.form c.in-Some.fetched.changes.items =
    rw c.in-Some.is at c.in_ok-fetched.ensures.fetched in
    record {
      limits = c.in_ok-changes.ensures.limits;
      positive = fetched.positive;
      onward = fetched.onward;
      there = has_files (IsKnown (g.S.Store.state c.args.store.now)) c.args.dir.now (g.S.Store.state c.args.store.now).files
          c.args.before c.args.number c.in-Some.fetched.time c.in-Some.fetched.form c.in-Some.fetched.changes.items
          c.in_ok-changes.changes.items fetched c.in_ok-changes.ensures.spelled;
    }

pub returns-clause-size : goal.returns-clause-size
returns-clause-size g c = λ yes.
    let fetched : IsFetched (IsKnown (g.S.Store.state c.args.store.now)) (g.S.Store.state c.args.store.now).files c.args.dir.now
    c.args.before c.args.number c.in-Some.fetched.time c.in-Some.fetched.form c.in-Some.fetched.changes.items =
    rw c.in-Some.is at c.in_ok-fetched.ensures.fetched in
    c.len-size.ensures ∙ (c.in-Some.fetched.changes.ok.0 ∙ size_is c.in-Some.fetched.form _ _ c.in-Some.fetched.changes.items (fetched.changes_are yes))
