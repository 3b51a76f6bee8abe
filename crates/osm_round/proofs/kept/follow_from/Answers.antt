use Rattle.std.proofs.Common.{◌+◌, ◌-◌, ◌*◌, ap, arith, length, subst, sym}
use Rattle.std.specs.Prelude.{Bool, IsTrue}
use Rattle.osm_kept.specs.Names.{journal_name_of}
use Rattle.osm_merge.specs.Calls.{bytes_in, check_calls, merge_calls}
use Rattle.osm_store.specs.Files.{Files}
use Rattle.osm_store.specs.Frames.{IsKnown}
use Rattle.osm_runs.specs.Runs.{IsDeviceFault}
use Rattle.osm_round.specs.Rounds.{IsWhole}
use Rattle.osm_round.proofs.OnwardLemmas.{kept_refuses, lacks_then, not_first_kept}
use Rattle.osm_round.proofs.StoppingLemmas.{calls_refused_then, whole_first, whole_stops}
use Rattle.osm_round.proofs.kept.follow_from.Goals as goal

pub returns-in-Ok-clause-calls : goal.returns-in-Ok-clause-calls
returns-in-Ok-clause-calls g c = λ yes p b n folder before.
    record { spent = (c.in-Ok.ensures.calls yes p b n folder before).spent; lacks = tt }

pub returns-then-is_some-clause-calls : goal.returns-then-is_some-clause-calls
returns-then-is_some-clause-calls g c = λ yes p b n folder before.
    record { spent = tt; lacks = (c.in-Err.ensures.calls yes p b n folder before).lacks }

pub returns-then-is_first_kept-clause-calls : goal.returns-then-is_first_kept-clause-calls
returns-then-is_first_kept-clause-calls g c = λ yes p b n folder before.
    record { spent = tt; lacks = (c.in-Err.ensures.calls yes p b n folder before).lacks }

pub returns-in-Ok-check_whole-clause-first : goal.returns-in-Ok-check_whole-clause-first
returns-in-Ok-check_whole-clause-first g c = λ yes none first.
    let b = g.S.Store.state c.go_on.new.store in
    subst (λ (f : Files). IsWhole (f c.args.save.now)) c.in-Err.ensures.frame.files
    (c.in-Ok-check_whole.ensures.whole (subst (λ (t : Bool). IsTrue t) (sym c.in-Err.ensures.frame.known) yes))

pub returns-in-Ok-check_whole-clause-frame : goal.returns-in-Ok-check_whole-clause-frame
returns-in-Ok-check_whole-clause-frame g c =
    calls_refused_then IsDeviceFault (g.S.Store.state c.args.store.now) (g.S.Store.state c.go_on.new.store) (g.S.Store.state c.check_whole.new.store)
    c.in-Err.fault tt c.in-Err.ensures.frame c.in-Ok-check_whole.ensures.frame

pub returns-in-Ok-check_whole-clause-calls : goal.returns-in-Ok-check_whole-clause-calls
returns-in-Ok-check_whole-clause-calls g c = λ yes p b n folder before.
    record { spent = tt; lacks = (c.in-Err.ensures.calls yes p b n folder before).lacks }

pub returns-in-Err-check_whole-clause-stops : goal.returns-in-Err-check_whole-clause-stops
returns-in-Err-check_whole-clause-stops g c =
    let a = g.S.Store.state c.args.store.now in
    let b = g.S.Store.state c.go_on.new.store in
    whole_stops (IsKnown a) c.args.options.now c.args.dir.now c.args.save.now a.files (b.files c.args.save.now) c.in-Err-check_whole.found
    (λ yes. ap (λ (f : Files). f c.args.save.now) c.in-Err.ensures.frame.files)
    (rw c.in-Err.ensures.frame.known at c.in-Err-check_whole.ensures.stops)

pub returns-in-Err-check_whole-clause-first : goal.returns-in-Err-check_whole-clause-first
returns-in-Err-check_whole-clause-first g c = λ yes none first.
    let b = g.S.Store.state c.go_on.new.store in
    absurd (whole_first (IsKnown b) (b.files c.args.save.now) c.in-Err-check_whole.found
    (subst (λ (t : Bool). IsTrue t) (sym c.in-Err.ensures.frame.known) yes) c.in-Err-check_whole.ensures.stops first)

pub returns-in-Err-check_whole-clause-calls : goal.returns-in-Err-check_whole-clause-calls
returns-in-Err-check_whole-clause-calls g c = λ yes p b n folder before.
    let a = g.S.Store.state c.args.store.now in
    let options = c.args.options.now in
    let told = a.files c.args.save.now in
    let refuses = kept_refuses c.laws_of_state.ensures.no_fault_beside_state c.laws_of_kept.ensures.one_kept options p b n c.args.dir.now
    c.args.save.now a.files folder before (IsKnown a) c.in-Err.fault yes c.in-Err.ensures.stops in
    let checked = rw (c.in-Err.ensures.frame.known, c.in-Err.ensures.frame.files) at c.in-Err-check_whole.ensures.calls in
    record {
      spent = tt;
      lacks = λ sure blame. lacks_then p options.filter told (a.files (journal_name_of c.args.save.now)) 1 (check_calls (bytes_in told))
          (1 + 3 * (length p - n) + merge_calls (bytes_in told)) a.left (g.S.Store.state c.go_on.new.store).left c.in-Err.fault (omega arith) refuses
          (not_first_kept c.in-Err.fault c.is_first_kept.result c.is_first_kept.ensures c.if-is_first_kept.false) c.in-Err.ensures.top
          ((c.in-Err.ensures.calls yes p b n folder before).lacks sure) (checked yes blame);
    }
