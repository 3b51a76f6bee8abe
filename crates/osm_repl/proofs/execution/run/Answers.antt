use Rattle.std.proofs.Common.{refl}
use Rattle.std.specs.Prelude.{Result, Ok, Err, IfOk, OnOk}
use Rattle.osm_store.specs.Frames.{IsKnown}
use Rattle.osm_publishing.proofs.OverLemmas.{number_adds}
use Rattle.osm_publishing.proofs.OverLemmas.{number_keeps, number_refuses, publish_adds, publish_keeps, publish_refuses}
use Rattle.osm_repl.proofs.FollowLemmas.{lag_does, lag_stops}
use Rattle.osm_repl.proofs.BeginLemmas.{begin_does, begin_makes}
use Rattle.osm_repl.proofs.FrameLemmas.{begin_changes, begin_leaves, changes_both, others_of, reads, replaces, replaces_once, writes}
use Rattle.osm_repl.proofs.execution.run.Goals as goal

-- what each run ensures is what its order asks for
pub returns-in-Publish-clause-stops : goal.returns-in-Publish-clause-stops
returns-in-Publish-clause-stops g c = rw c.in-Publish.is c.publish_run.ensures.stops

pub returns-in-Begin-clause-does : goal.returns-in-Begin-clause-does
returns-in-Begin-clause-does g c = rw c.in-Begin.is
    (begin_makes _ c.args.options c.args.sizes c.in-Begin.base c.in-Begin.state c.in-Begin.save _ _ c.begin_kept.result
    c.begin_kept.ensures.begun c.begin_kept.ensures.timely)

pub returns-in-Begin-clause-over : goal.returns-in-Begin-clause-over
returns-in-Begin-clause-over g c = rw c.in-Begin.is
    (begin_does c.laws_of_kept.ensures.nothing _ c.args.options c.in-Begin.base c.in-Begin.state c.in-Begin.save _ _ c.begin_kept.result
    c.begin_kept.ensures.begun)

pub returns-in-Lag-clause-over : goal.returns-in-Lag-clause-over
returns-in-Lag-clause-over g c = rw c.in-Lag.is
    (lag_does c.args.options c.in-Lag.dir c.in-Lag.save (g.S.Store.state c.args.store.now) (g.S.Store.state c.lag_run.new.store)
    c.lag_run.result c.lag_run.ensures.over)

pub returns-in-PublishAs-clause-stops : goal.returns-in-PublishAs-clause-stops
returns-in-PublishAs-clause-stops g c = rw c.in-PublishAs.is c.publish_as_run.ensures.stops

pub returns-in-PublishAs-clause-over : goal.returns-in-PublishAs-clause-over
returns-in-PublishAs-clause-over g c = rw c.in-PublishAs.is (number_adds _ _ _ _ _ _ _ c.publish_as_run.result c.publish_as_run.ensures.over)

pub returns-in-PublishAs-clause-refuses : goal.returns-in-PublishAs-clause-refuses
returns-in-PublishAs-clause-refuses g c = rw c.in-PublishAs.is (number_refuses _ _ _ _ _ _ _ c.publish_as_run.result c.publish_as_run.ensures.over)

pub returns-in-Lag-clause-refuses : goal.returns-in-Lag-clause-refuses
returns-in-Lag-clause-refuses g c = rw c.in-Lag.is (lag_stops c.args.options c.in-Lag.dir c.in-Lag.save (g.S.Store.state c.args.store.now)
    (g.S.Store.state c.lag_run.new.store) c.lag_run.result c.lag_run.ensures.over)

pub returns-in-Publish-clause-over : goal.returns-in-Publish-clause-over
returns-in-Publish-clause-over g c = rw c.in-Publish.is (publish_adds _ _ _ _ _ _ c.publish_run.result c.publish_run.ensures.over)

pub returns-in-Publish-clause-refuses : goal.returns-in-Publish-clause-refuses
returns-in-Publish-clause-refuses g c = rw c.in-Publish.is (publish_refuses _ _ _ _ _ _ c.publish_run.result c.publish_run.ensures.over)

pub returns-in-Publish-clause-leaves : goal.returns-in-Publish-clause-leaves
returns-in-Publish-clause-leaves g c = rw c.in-Publish.is (publish_keeps _ _ _ _ _ _ c.publish_run.result c.publish_run.ensures.over)

pub returns-in-PublishAs-clause-leaves : goal.returns-in-PublishAs-clause-leaves
returns-in-PublishAs-clause-leaves g c = rw c.in-PublishAs.is (number_keeps _ _ _ _ _ _ _ c.publish_as_run.result c.publish_as_run.ensures.over)

-- what holds of every report
of_any : {T E : Type 0} (P : Type 0) (r : Result T E) → OnOk r P → IfOk r (λ x. P)
of_any P (Ok x) p = p
of_any P (Err e) p = tt

pub returns-in-Export-clause-over : goal.returns-in-Export-clause-over
returns-in-Export-clause-over g c = rw c.in-Export.is (of_any _ c.export_kept.result c.export_kept.ensures.in_step)

-- ---- what it leaves as it was

pub returns-in-Publish-clause-frame : goal.returns-in-Publish-clause-frame
returns-in-Publish-clause-frame g c = rw c.in-Publish.is
    (writes _ _ _ _ _ _ c.publish_run.result refl c.publish_run.ensures.frame c.publish_run.ensures.others)

pub returns-in-PublishAs-clause-frame : goal.returns-in-PublishAs-clause-frame
returns-in-PublishAs-clause-frame g c = rw c.in-PublishAs.is
    (writes _ _ _ _ _ _ c.publish_as_run.result refl c.publish_as_run.ensures.frame c.publish_as_run.ensures.others)

pub returns-in-Begin-clause-frame : goal.returns-in-Begin-clause-frame
returns-in-Begin-clause-frame g c = rw c.in-Begin.is
    (changes_both _ c.in-Begin.save.now _ _ c.begin_kept.result (λ name own. own) c.begin_kept.ensures.frame.known
    c.begin_kept.ensures.frame.left c.begin_kept.ensures.frame.failures c.begin_kept.ensures.spends
    (begin_changes _ _ _ _ _ _ _ c.begin_kept.result c.begin_kept.ensures.begun)
    (begin_leaves c.args.options.filter c.in-Begin.base.now c.in-Begin.state.now c.in-Begin.save.now (g.S.Store.state c.args.store.now).files
    (g.S.Store.state c.begin_kept.new.store).files (IsKnown (g.S.Store.state c.args.store.now)) c.begin_kept.result c.begin_kept.ensures.leaves))

pub returns-in-Begin-clause-dropped : goal.returns-in-Begin-clause-dropped
returns-in-Begin-clause-dropped g c = rw c.in-Begin.is c.begin_kept.ensures.dropped

pub returns-in-Lag-clause-frame : goal.returns-in-Lag-clause-frame
returns-in-Lag-clause-frame g c = rw c.in-Lag.is (reads _ _ _ _ _ _ c.lag_run.result refl c.lag_run.ensures.frame)

pub returns-in-Export-clause-frame : goal.returns-in-Export-clause-frame
returns-in-Export-clause-frame g c = rw c.in-Export.is
    (replaces _ c.in-Export.output.now _ _ c.export_kept.result (λ name own. own) c.export_kept.ensures.frame.files c.export_kept.ensures.frame.known
    c.export_kept.ensures.frame.left c.export_kept.ensures.frame.failures c.export_kept.ensures.spends
    (others_of _ _ c.export_kept.result (of_any _ c.export_kept.result c.export_kept.ensures.exported) (λ report made. λ sure. (made sure).put.others)))

pub returns-in-Convert-clause-frame : goal.returns-in-Convert-clause-frame
returns-in-Convert-clause-frame g c = rw c.in-Convert.is
    (replaces_once _ _ c.in-Convert.output.now _ _ _ _ c.convert_run.result refl (λ name own. own) c.convert_run.ensures.frame
    (others_of _ _ c.convert_run.result (of_any _ c.convert_run.result c.convert_run.ensures.converted) (λ report made. λ sure. (made sure).put.others)))
