use Rattle.std.proofs.Common.{subst, sym}
use Rattle.std.specs.Prelude.{IsTrue}
use Rattle.osm_store.specs.Frames.{IsKnown}
use Rattle.osm_beginning.proofs.BeginLemmas.{begun_over, near_timely}
use Rattle.osm_beginning.proofs.KeepingLemmas.{beside_stops, both_of, leaves_of}
use Rattle.osm_beginning.proofs.kept.begin_kept.Goals as goal

pub returns-in-Ok-begin_beside-clause-begun : goal.returns-in-Ok-begin_beside-clause-begun
returns-in-Ok-begin_beside-clause-begun g c = λ yes.
    let a = g.S.Store.state c.args.store.now in
    let b = g.S.Store.state c.read_start.new.store in
    let known : IsKnown b = subst IsTrue (sym c.in-Ok.ensures.frame.makes.known) yes in
    both_of c.args.options.now.filter c.args.base.now c.args.state.now c.args.save.now a.files b.files (g.S.Store.state c.begin_beside.new.store).files
    c.in-Some.form c.in-Ok.start c.head_from-head.result c.in-Some.ensures.found c.limits.ensures c.head_from-head.ensures.limits (c.in-Ok.ensures.start yes)
    c.in-Ok.ensures.frame.files c.head_from-head.ensures.head c.laws_of_kept.ensures.saved c.laws_of_kept.ensures.saved_at
    c.laws_of_kept.ensures.older c.laws_of_kept.ensures.no_bytes c.in-Ok-begin_report.report
    (rw c.sequence.ensures.sequence at c.in-Ok-begin_report.ensures) (c.in-Ok-begin_beside.ensures.puts.put known)

pub returns-in-Ok-begin_beside-clause-in_step : goal.returns-in-Ok-begin_beside-clause-in_step
returns-in-Ok-begin_beside-clause-in_step g c = λ yes ps number of.
    begun_over c.laws_of_kept.ensures.nothing c.args.options.now.filter ps number c.args.base.now c.args.state.now c.args.save.now
    (g.S.Store.state c.args.store.now).files (g.S.Store.state c.begin_beside.new.store).files c.in-Ok-begin_report.report of
    (returns-in-Ok-begin_beside-clause-begun g c yes)

pub returns-in-Err-begin_beside-clause-stops : goal.returns-in-Err-begin_beside-clause-stops
returns-in-Err-begin_beside-clause-stops g c =
    let a = g.S.Store.state c.args.store.now in
    beside_stops c.args.options.now.any_time c.compared-state_time.result c.head_from-head.result c.args.options.now.filter (IsKnown a) c.args.base.now
    c.args.state.now c.args.save.now a.files c.in-Some.form c.in-Ok.start c.head_from-head.ensures.head c.in-Some.ensures.found c.in-Ok.ensures.start
    c.compared-state_time.ensures c.in-Err-begin_beside.fault
    (rw (c.in-Ok.ensures.frame.makes.known, c.in-Ok.ensures.frame.files) at c.in-Err-begin_beside.ensures.stops)

pub returns-in-Err-begin_beside-clause-leaves : goal.returns-in-Err-begin_beside-clause-leaves
returns-in-Err-begin_beside-clause-leaves g c = λ yes.
    let a = g.S.Store.state c.args.store.now in
    let b = g.S.Store.state c.read_start.new.store in
    let known : IsKnown b = subst IsTrue (sym c.in-Ok.ensures.frame.makes.known) yes in
    leaves_of c.args.options.now.filter c.args.base.now c.args.state.now c.args.save.now a.files b.files (g.S.Store.state c.begin_beside.new.store).files
    c.in-Some.form c.in-Ok.start c.head_from-head.result c.in-Some.ensures.found c.limits.ensures c.head_from-head.ensures.limits (c.in-Ok.ensures.start yes)
    c.in-Ok.ensures.frame.files c.head_from-head.ensures.head c.laws_of_kept.ensures.saved_at c.in-Err-begin_beside.fault
    (c.in-Err-begin_beside.ensures.leaves known)

pub returns-in-Ok-begin_beside-clause-timely : goal.returns-in-Ok-begin_beside-clause-timely
returns-in-Ok-begin_beside-clause-timely g c = λ yes compares.
    let a = g.S.Store.state c.args.store.now in
    let b = g.S.Store.state c.read_start.new.store in
    let known : IsKnown b = subst IsTrue (sym c.in-Ok.ensures.frame.makes.known) yes in
    near_timely c.args.options.now.any_time c.compared-state_time.result c.args.base.now c.args.state.now a.files c.in-Some.form c.in-Ok.start
    c.in-Some.ensures.found (c.in-Ok.ensures.start yes) c.compared-state_time.ensures
    (rw c.in-Ok.ensures.frame.files at c.in-Ok-begin_beside.ensures.puts.near known) compares
