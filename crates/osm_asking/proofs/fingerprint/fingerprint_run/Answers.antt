use Rattle.std.proofs.Common.{subst, sym}
use Rattle.std.specs.Prelude.{Bool, Err, IsTrue, Ok}
use Rattle.osm_blocks.proofs.OftenLemmas.{often_then}
use Rattle.osm_kept.specs.Names.{journal_name_of}
use Rattle.osm_merge.specs.Faults as merges
use Rattle.osm_merge.proofs.FrameLemmas.{often_fails}
use Rattle.osm_runs.specs.Runs.{IsDeviceFault}
use Rattle.osm_runs.proofs.FrameLemmas.{blames_device}
use Rattle.osm_store.specs.Files.{Files}
use Rattle.osm_store.specs.Frames.{IsKnown}
use Rattle.osm_asking.specs.Fingerprint.{HasFingerprint}
use Rattle.osm_asking.specs.Steps.Summing.{IsSummed}
use Rattle.osm_asking.specs.Stopping.{SumStops}
use Rattle.osm_asking.proofs.FrameLemmas.{often_as, often_few, often_told}
use Rattle.osm_asking.proofs.RunLemmas.{has_fingerprint, read_stops}
use Rattle.osm_asking.proofs.fingerprint.fingerprint_run.Goals as goal

pub returns-in-Err-clause-frame : goal.returns-in-Err-clause-frame
returns-in-Err-clause-frame g c =
    let a = g.S.Store.state c.args.store.now in
    let b = g.S.Store.state c.laid_of_save.new.store in
    often_told IsDeviceFault IsDeviceFault a b c.in-Err.fault c.in-Err.fault (λ blame. blame)
    (often_few IsDeviceFault a b (Err c.in-Err.fault) c.in-Err.ensures.frame)

pub returns-in-Ok-sum_save-clause-given : goal.returns-in-Ok-sum_save-clause-given
returns-in-Ok-sum_save-clause-given g c = λ known.
    let a = g.S.Store.state c.args.store.now in
    let frame = c.in-Ok.ensures.frame in
    let text = c.in-Ok-sum_save.text.items in
    subst (HasFingerprint c.args.keys (a.files c.args.save.now) (a.files (journal_name_of c.args.save.now))) (sym c.new.ensures)
    (has_fingerprint c.args.keys (a.files c.args.save.now) (a.files (journal_name_of c.args.save.now)) c.in-Ok.laid text (c.in-Ok.ensures.laid known)
    (c.in-Ok.ensures.free known)
    (subst (λ (f : Files). IsSummed c.args.keys (f c.args.save.now) c.in-Ok.laid text) frame.files
    (c.in-Ok-sum_save.ensures.summed (subst (λ (k : Bool). IsTrue k) (sym frame.makes.known) known))))

pub returns-clause-stops : goal.returns-clause-stops
returns-clause-stops g c =
    let a = g.S.Store.state c.args.store.now in
    let b = g.S.Store.state c.laid_of_save.new.store in
    let frame = c.in-Ok.ensures.frame in
    subst (SumStops (IsKnown a) c.args.save.now a.files) (sym c.read_fault.ensures)
    (read_stops a b c.args.save.now c.in-Ok.laid c.in-Err-sum_save.fault frame.files frame.makes.known c.in-Ok.ensures.laid
    c.in-Err-sum_save.ensures.refused)

pub returns-in-Ok-sum_save-clause-frame : goal.returns-in-Ok-sum_save-clause-frame
returns-in-Ok-sum_save-clause-frame g c =
    let a = g.S.Store.state c.args.store.now in
    let b = g.S.Store.state c.laid_of_save.new.store in
    let d = g.S.Store.state c.sum_save.new.store in
    often_then {U = Unit {0}} IsDeviceFault a b d c.in-Ok.laid tt c.new.result (often_few IsDeviceFault a b (Ok c.in-Ok.laid) c.in-Ok.ensures.frame)
    (often_as {U = Unit {0}} merges.IsDeviceFault IsDeviceFault b d c.in-Ok-sum_save.text tt c.in-Ok-sum_save.ensures.frame)

pub returns-clause-frame : goal.returns-clause-frame
returns-clause-frame g c =
    let a = g.S.Store.state c.args.store.now in
    let b = g.S.Store.state c.laid_of_save.new.store in
    let d = g.S.Store.state c.sum_save.new.store in
    let fault = c.in-Err-sum_save.fault in
    rw c.read_fault.ensures
    (often_fails IsDeviceFault a b d c.in-Ok.laid _ (often_few IsDeviceFault a b (Ok c.in-Ok.laid) c.in-Ok.ensures.frame)
    (often_told {U = Unit {0}} merges.IsDeviceFault IsDeviceFault b d fault _ (blames_device fault) c.in-Err-sum_save.ensures.frame))
