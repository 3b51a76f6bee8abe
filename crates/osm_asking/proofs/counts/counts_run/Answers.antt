use Rattle.std.proofs.Common.{subst, sym}
use Rattle.std.specs.Prelude.{Bool, Err, IsTrue, Ok}
use Rattle.osm_blocks.proofs.OftenLemmas.{often_then}
use Rattle.osm_kept.specs.Names.{journal_name_of}
use Rattle.osm_merge.specs.Faults as merges
use Rattle.osm_merge.proofs.FrameLemmas.{often_fails}
use Rattle.osm_net.specs.Lists.{net_in}
use Rattle.osm_runs.specs.Runs.{IsDeviceFault}
use Rattle.osm_runs.specs.declared.fault.RunFault.TheVariants.{WantOfMemory}
use Rattle.osm_runs.proofs.FrameLemmas.{blames_device}
use Rattle.osm_store.specs.Files.{Files}
use Rattle.osm_store.specs.Frames.{IsKnown}
use Rattle.osm_asking.specs.Steps.Counting.{AreCounted}
use Rattle.osm_asking.specs.Stopping.{SumStops}
use Rattle.osm_asking.proofs.CountLemmas.{gives_counts}
use Rattle.osm_asking.proofs.FrameLemmas.{often_as, often_few, often_late, often_told}
use Rattle.osm_asking.proofs.LaidLemmas.{fit_together}
use Rattle.osm_asking.proofs.RunLemmas.{calls_blamed, read_stops}
use Rattle.std.proofs.Common.{arith}
use Rattle.osm_store.proofs.FrameLemmas.{at_most_both, at_most_more}
use Rattle.osm_asking.specs.Reads.{most_counting}
use Rattle.osm_asking.specs.Steps.Counting.{most_at_end}
use Rattle.osm_asking.proofs.PlainLemmas.{calls_as, calls_off, plain_between}
use Rattle.osm_asking.proofs.counts.counts_run.Goals as goal

pub returns-in-Err-clause-frame : goal.returns-in-Err-clause-frame
returns-in-Err-clause-frame g c =
    let a = g.S.Store.state c.args.store.now in
    let b = g.S.Store.state c.laid_of_save.new.store in
    often_told IsDeviceFault IsDeviceFault a b c.in-Err.fault c.in-Err.fault (λ blame. blame)
    (often_few IsDeviceFault a b (Err c.in-Err.fault) c.in-Err.ensures.frame)

pub returns-in-Ok-report_of-clause-given : goal.returns-in-Ok-report_of-clause-given
returns-in-Ok-report_of-clause-given g c = λ known.
    let a = g.S.Store.state c.args.store.now in
    let frame = c.in-Ok.ensures.frame in
    let counts = c.in-Ok-read_counts.counts.items in
    gives_counts c.laws_of_kept.ensures.one_kept c.args.by c.args.choice c.args.form (a.files c.args.save.now)
    (a.files (journal_name_of c.args.save.now)) c.in-Ok.laid counts c.in-Ok-report_of.report (c.in-Ok.ensures.laid known)
    (subst (λ (f : Files). AreCounted (f c.args.save.now) c.args.by (net_in c.in-Ok.laid.lists) counts) frame.files
    (c.in-Ok-read_counts.ensures.counted (subst (λ (k : Bool). IsTrue k) (sym frame.makes.known) known))) c.in-Ok-report_of.ensures

pub returns-in-Ok-report_of-clause-fits : goal.returns-in-Ok-report_of-clause-fits
returns-in-Ok-report_of-clause-fits g c = λ known.
    let a = g.S.Store.state c.args.store.now in
    fit_together (a.files c.args.save.now) (a.files (journal_name_of c.args.save.now)) c.in-Ok.laid (c.in-Ok.ensures.laid known)
    (c.in-Ok.ensures.free known)

pub returns-in-Err-read_counts-clause-stops : goal.returns-in-Err-read_counts-clause-stops
returns-in-Err-read_counts-clause-stops g c =
    let a = g.S.Store.state c.args.store.now in
    let b = g.S.Store.state c.laid_of_save.new.store in
    let frame = c.in-Ok.ensures.frame in
    subst (SumStops (IsKnown a) c.args.save.now a.files) (sym c.read_fault.ensures)
    (read_stops a b c.args.save.now c.in-Ok.laid c.in-Err-read_counts.fault frame.files frame.makes.known c.in-Ok.ensures.laid
    c.in-Err-read_counts.ensures.refused)

pub returns-in-Err-read_counts-clause-frame : goal.returns-in-Err-read_counts-clause-frame
returns-in-Err-read_counts-clause-frame g c =
    let a = g.S.Store.state c.args.store.now in
    let b = g.S.Store.state c.laid_of_save.new.store in
    let d = g.S.Store.state c.read_counts.new.store in
    let fault = c.in-Err-read_counts.fault in
    rw c.read_fault.ensures
    (often_fails IsDeviceFault a b d c.in-Ok.laid _ (often_few IsDeviceFault a b (Ok c.in-Ok.laid) c.in-Ok.ensures.frame)
    (often_told {U = Unit {0}} merges.IsDeviceFault IsDeviceFault b d fault _ (blames_device fault) c.in-Err-read_counts.ensures.frame))

pub returns-in-Ok-report_of-clause-frame : goal.returns-in-Ok-report_of-clause-frame
returns-in-Ok-report_of-clause-frame g c =
    let a = g.S.Store.state c.args.store.now in
    let b = g.S.Store.state c.laid_of_save.new.store in
    let d = g.S.Store.state c.read_counts.new.store in
    often_then {U = Unit {0}} IsDeviceFault a b d c.in-Ok.laid tt c.in-Ok-report_of.report
    (often_few IsDeviceFault a b (Ok c.in-Ok.laid) c.in-Ok.ensures.frame)
    (often_as {U = Unit {0}} merges.IsDeviceFault IsDeviceFault b d c.in-Ok-read_counts.counts tt c.in-Ok-read_counts.ensures.frame)

pub returns-clause-frame : goal.returns-clause-frame
returns-clause-frame g c =
    let a = g.S.Store.state c.args.store.now in
    let b = g.S.Store.state c.laid_of_save.new.store in
    let d = g.S.Store.state c.read_counts.new.store in
    often_late {T = Unit {0}} IsDeviceFault IsDeviceFault a d tt WantOfMemory (λ blame. blame)
    (often_then {U = Unit {0}} {V = Unit {0}} IsDeviceFault a b d c.in-Ok.laid tt tt (often_few IsDeviceFault a b (Ok c.in-Ok.laid) c.in-Ok.ensures.frame)
    (often_as {U = Unit {0}} merges.IsDeviceFault IsDeviceFault b d c.in-Ok-read_counts.counts tt c.in-Ok-read_counts.ensures.frame))

pub returns-in-Err-clause-calls : goal.returns-in-Err-clause-calls
returns-in-Err-clause-calls g c = λ file v plain.
    let a = g.S.Store.state c.args.store.now in
    let b = g.S.Store.state c.laid_of_save.new.store in
    at_most_more IsDeviceFault 4 (most_counting v) a b (Err c.in-Err.fault) (omega arith) (calls_off 4 a b c.in-Err.fault c.in-Err.ensures.frame.at_most)

pub returns-in-Ok-report_of-clause-calls : goal.returns-in-Ok-report_of-clause-calls
returns-in-Ok-report_of-clause-calls g c = λ file v plain.
    let a = g.S.Store.state c.args.store.now in
    let b = g.S.Store.state c.laid_of_save.new.store in
    let d = g.S.Store.state c.read_counts.new.store in
    let frame = c.in-Ok.ensures.frame in
    at_most_both IsDeviceFault 4 (most_at_end v) (most_counting v) a b d c.in-Ok.laid (Ok c.in-Ok-report_of.report) (omega arith) frame.makes.known
    frame.at_most
    (calls_as (most_at_end v) b d c.in-Ok-read_counts.counts c.in-Ok-report_of.report
    (c.in-Ok-read_counts.ensures.calls file v (plain_between a b c.args.save.now file v frame.files frame.makes.known plain)))

pub returns-clause-calls : goal.returns-clause-calls
returns-clause-calls g c = λ file v plain.
    record { spent = tt; lacks = λ known blame. absurd blame }

pub returns-in-Err-read_counts-clause-calls : goal.returns-in-Err-read_counts-clause-calls
returns-in-Err-read_counts-clause-calls g c = λ file v plain.
    let a = g.S.Store.state c.args.store.now in
    let b = g.S.Store.state c.laid_of_save.new.store in
    let d = g.S.Store.state c.read_counts.new.store in
    let frame = c.in-Ok.ensures.frame in
    rw c.read_fault.ensures
    (at_most_both IsDeviceFault 4 (most_at_end v) (most_counting v) a b d c.in-Ok.laid (Err _) (omega arith) frame.makes.known frame.at_most
    (calls_blamed (most_at_end v) b d c.in-Err-read_counts.fault
    (c.in-Err-read_counts.ensures.calls file v (plain_between a b c.args.save.now file v frame.files frame.makes.known plain))))
