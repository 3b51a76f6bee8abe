use Rattle.std.proofs.Common.{subst}
use Rattle.osm_store.specs.Frames.{IsKnown}
use Rattle.osm_state.specs.declared.paths.Suffix.TheVariants.{State}
use Rattle.osm_store.specs.Files.{IsWithin, Tells}
use Rattle.osm_runs.specs.Folder.{max_state}
use Rattle.osm_runs.specs.Names.{file_name_of}
use Rattle.osm_runs.specs.Steps.Following.{StateTextStops}
use Rattle.osm_runs.proofs.FetchLemmas.{state_text_stops}
use Rattle.osm_runs.proofs.ResultLemmas.{same_err}
use Rattle.osm_runs.proofs.fetch.read_state.Goals as goal

pub returns-in_err-time-clause-stops : goal.returns-in_err-time-clause-stops
returns-in_err-time-clause-stops g c =
    same_err _ c.from_residual-in_err-time.result _ c.from_residual-in_err-time.ensures.1
    (state_text_stops (IsKnown (g.S.Store.state c.args.store.now)) c.args.dir.now (g.S.Store.state c.args.store.now).files c.args.before c.args.number
    c.in-Some.text.items _
    (subst (λ o. IsKnown (g.S.Store.state c.args.store.now)
    → Tells o ((g.S.Store.state c.args.store.now).files (file_name_of c.args.dir.now c.args.number State))) c.in-Some.is
    c.in_ok-text.ensures.read)
    (subst (λ o. IsWithin max_state o) c.in-Some.is c.in_ok-text.ensures.within)
    (subst (λ xs. StateTextStops xs c.args.before c.args.number c.in_err-time.field-0.0) c.as_slice.ensures.value c.in_err-time.ensures.stops))
