use Rattle.std.proofs.Common.{arith, subst}
use Rattle.osm_store.specs.Frames.{IsKnown}
use Rattle.osm_model.specs.Time.{TimeText}
use Rattle.osm_runs.specs.Runs.{IsDeviceFault}
use Rattle.osm_store.proofs.FrameLemmas.{reads_both, reads_done}
use Rattle.osm_publishing.proofs.OutLemmas.{close_without_device}
use Rattle.osm_publishing.proofs.PublishLemmas.{all_made, all_read, not_made}
use Rattle.osm_runs.proofs.ResultLemmas.{err_map}
use Rattle.osm_publishing.proofs.publish.prepare.Goals as goal

pub returns-clause-made : goal.returns-clause-made
returns-clause-made g c =
    all_made (IsKnown (g.S.Store.state c.args.store.now)) c.args.dir.now c.args.changes.now c.args.now.now (g.S.Store.state c.args.store.now).files
    (record c.publisher_from.result { pending = c.in_ok-batch.batch }) c.in-Some.time c.make.result
    (λ yes. all_read c.args.dir.now c.args.changes.now c.args.now.now (g.S.Store.state c.args.store.now).files
    (g.S.Store.state c.newest.new.store).files c.in_ok-top.top c.publisher_from.result c.in_ok-batch.batch c.in-Some.time
    c.newest.ensures.frame.files c.publisher_from.ensures (c.in_ok-top.ensures.goes_on yes)
    (c.in_ok-batch.ensures.read (rw c.newest.ensures.frame.makes.known yes))
    (subst (λ xs. TimeText xs c.in-Some.time) c.as_bytes.ensures.value c.in-Some.ensures.sound))
    c.make.ensures.made c.make.ensures.can_close

pub returns-clause-stops : goal.returns-clause-stops
returns-clause-stops g c =
    err_map _ _ c.make.result c.make.ensures.stops (λ fault stops.
    not_made (IsKnown (g.S.Store.state c.args.store.now)) c.args.dir.now c.args.changes.now c.args.now.now (g.S.Store.state c.args.store.now).files
    (record c.publisher_from.result { pending = c.in_ok-batch.batch }) c.in-Some.time fault
    (subst (λ xs. TimeText xs c.in-Some.time) c.as_bytes.ensures.value c.in-Some.ensures.sound)
    (λ yes. all_read c.args.dir.now c.args.changes.now c.args.now.now (g.S.Store.state c.args.store.now).files
    (g.S.Store.state c.newest.new.store).files c.in_ok-top.top c.publisher_from.result c.in_ok-batch.batch c.in-Some.time
    c.newest.ensures.frame.files c.publisher_from.ensures (c.in_ok-top.ensures.goes_on yes)
    (c.in_ok-batch.ensures.read (rw c.newest.ensures.frame.makes.known yes))
    (subst (λ xs. TimeText xs c.in-Some.time) c.as_bytes.ensures.value c.in-Some.ensures.sound))
    stops)

pub returns-clause-frame : goal.returns-clause-frame
returns-clause-frame g c =
    reads_done IsDeviceFault 2 2 _ _ _ c.make.result (err_map _ _ c.make.result c.make.ensures.stops (close_without_device _ c.in-Some.time))
    (reads_both IsDeviceFault 1 1 2 1 1 2 _ _ _ _ _ (omega arith) (omega arith) c.in_ok-top.ensures.frame c.in_ok-batch.ensures.frame)
