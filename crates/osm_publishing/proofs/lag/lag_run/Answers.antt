use Rattle.std.proofs.Common.{rules}
use Rattle.osm_store.specs.Frames.{IsKnown}
use Rattle.osm_runs.specs.Folder.{IsStateFile, IsThere}
use Rattle.osm_runs.specs.Names.{top_name_of}
use Rattle.osm_publishing.proofs.KeptLagLemmas.{kept_lag_told, lags_alone, lags_over}
use Rattle.osm_runs.proofs.ResultLemmas.{ok_map}
use Rattle.osm_publishing.proofs.lag.lag_run.Goals as goal

pub returns-clause-lag : goal.returns-clause-lag
returns-clause-lag g c =
    let a = g.S.Store.state c.args.store.now in
    let there : IsKnown a → IsThere (a.files (top_name_of c.args.dir.now)) (IsStateFile c.in_ok-top.top.sequence c.in_ok-top.top.time) =
    rw (c.in_ok-start.ensures.frame.makes.known, c.in_ok-start.ensures.frame.files) at c.in_ok-top.ensures.top in
    ok_map _ _ c.tell.result c.tell.ensures.told (λ report told known. kept_lag_told c.args.layout c.args.dir.now c.args.save.now a.files
    c.in_ok-start.start c.in_ok-top.top report (c.in_ok-start.ensures.head known) (there known) told)

pub returns-in_err-start-clause-over : goal.returns-in_err-start-clause-over
returns-in_err-start-clause-over g c = λ yes p given b n is k.
    lags_over (g.S.Store.state c.args.store.now) c.args.layout given p b n c.args.dir.now c.args.save.now c.from_residual.result
    c.laws_of_state.ensures.no_fault_beside_state c.laws_of_kept.ensures.opens_bad yes is k (search rules) (search rules)

pub returns-in_err-top-clause-over : goal.returns-in_err-top-clause-over
returns-in_err-top-clause-over g c = λ yes p given b n is k.
    lags_over (g.S.Store.state c.args.store.now) c.args.layout given p b n c.args.dir.now c.args.save.now
    c.from_residual-in_err-top.result c.laws_of_state.ensures.no_fault_beside_state c.laws_of_kept.ensures.opens_bad yes is k (search rules) (search rules)

pub returns-clause-over : goal.returns-clause-over
returns-clause-over g c = λ yes p given b n is k.
    lags_over (g.S.Store.state c.args.store.now) c.args.layout given p b n c.args.dir.now c.args.save.now c.tell.result
    c.laws_of_state.ensures.no_fault_beside_state c.laws_of_kept.ensures.opens_bad yes is k (returns-clause-lag g c) (search rules)

pub returns-in_err-start-clause-alone : goal.returns-in_err-start-clause-alone
returns-in_err-start-clause-alone g c = λ yes none.
    lags_alone (g.S.Store.state c.args.store.now) c.args.layout c.args.dir.now c.args.save.now c.from_residual.result
    c.laws_of_kept.ensures.one_other c.laws_of_kept.ensures.opens c.laws_of_kept.ensures.no_bytes yes none (search rules) (search rules)

pub returns-in_err-top-clause-alone : goal.returns-in_err-top-clause-alone
returns-in_err-top-clause-alone g c = λ yes none.
    lags_alone (g.S.Store.state c.args.store.now) c.args.layout c.args.dir.now c.args.save.now c.from_residual-in_err-top.result
    c.laws_of_kept.ensures.one_other c.laws_of_kept.ensures.opens c.laws_of_kept.ensures.no_bytes yes none (search rules) (search rules)

pub returns-clause-alone : goal.returns-clause-alone
returns-clause-alone g c = λ yes none.
    lags_alone (g.S.Store.state c.args.store.now) c.args.layout c.args.dir.now c.args.save.now c.tell.result
    c.laws_of_kept.ensures.one_other c.laws_of_kept.ensures.opens c.laws_of_kept.ensures.no_bytes yes none (returns-clause-lag g c) (search rules)
