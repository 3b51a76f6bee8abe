use Rattle.std.specs.Prelude.{Err, Ok}
use Rattle.osm_kept.specs.Names.{journal_name_of}
use Rattle.osm_kept.specs.Refusal.{IsDeviceFault}
use Rattle.osm_merge.proofs.FrameLemmas.{has_still}
use Rattle.osm_asking.specs.Asking.{IsAskFailed}
use Rattle.osm_asking.specs.declared.ask_fault.AskFault.TheVariants.{Kept, NoSave}
use Rattle.osm_asking.proofs.FrameLemmas.{often_few, often_late, often_told}
use Rattle.osm_asking.proofs.LaidLemmas.{are_of_journal, fit_together, gives_kept}
use Rattle.osm_asking.proofs.SourceLemmas.{search_back}
use Rattle.osm_asking.proofs.kept.open_sources.Goals as goal

pub returns-in-Ok-None-clause-stops : goal.returns-in-Ok-None-clause-stops
returns-in-Ok-None-clause-stops g c = λ known.
    (let none = (rw c.in-Ok-None.field-0-is at c.in-Ok-None.ensures.laid) known in
    record { save = none.0; journal_is = none.1 })

pub returns-in-Ok-None-clause-frame : goal.returns-in-Ok-None-clause-frame
returns-in-Ok-None-clause-frame g c =
    let a = g.S.Store.state c.args.store.now in
    let b = g.S.Store.state c.read_laid.new.store in
    often_late IsDeviceFault IsAskFailed a b c.in-Ok-None.field-0 NoSave (λ blame. blame)
    (often_few IsDeviceFault a b (Ok c.in-Ok-None.field-0) c.in-Ok-None.ensures.frame)

pub returns-in-Err-clause-frame : goal.returns-in-Err-clause-frame
returns-in-Err-clause-frame g c =
    let a = g.S.Store.state c.args.store.now in
    let b = g.S.Store.state c.read_laid.new.store in
    often_told IsDeviceFault IsAskFailed a b c.in-Err.fault (Kept c.in-Err.fault) (λ blame. blame)
    (often_few IsDeviceFault a b (Err c.in-Err.fault) c.in-Err.ensures.frame)

pub returns-in-Ok-clause-opened : goal.returns-in-Ok-clause-opened
returns-in-Ok-clause-opened g c =
    let a = g.S.Store.state c.args.store.now in
    let b = g.S.Store.state c.read_laid.new.store in
    let told = a.files c.args.save.now in
    let journal = a.files (journal_name_of c.args.save.now) in
    let laid = c.in-Ok-Some.laid in
    let lays = rw c.in-Ok-Some.field-0-is at c.in-Ok-Some.ensures.laid in
    let plain = rw c.in-Ok-Some.field-0-is at c.in-Ok-Some.ensures.plain in
    record {
      fits = λ yes. fit_together told journal laid (lays yes) (c.in-Ok-Some.ensures.free yes);
      opening = λ yes file v there spells. c.in-Ok.ensures.opened file v
          (has_still a b c.in-Ok-Some.field-0 c.args.save.now file
          (often_few IsDeviceFault a b (Ok c.in-Ok-Some.field-0) c.in-Ok-Some.ensures.frame) (record { known = yes; there = there })) spells;
      laid = λ yes. gives_kept told journal laid (lays yes) c.laws_of_kept.ensures.one_kept;
      left = λ yes. are_of_journal told journal laid (lays yes);
      rising = plain.net.orderly.rising;
      own = plain.net.orderly.own;
    }

pub returns-in-Err-open_lines-clause-stops : goal.returns-in-Err-open_lines-clause-stops
returns-in-Err-open_lines-clause-stops g c =
    let a = g.S.Store.state c.args.store.now in
    let b = g.S.Store.state c.read_laid.new.store in
    search_back a b c.args.save.now c.in-Err-open_lines.fault
    (λ file has. has_still a b c.in-Ok-Some.field-0 c.args.save.now file
    (often_few IsDeviceFault a b (Ok c.in-Ok-Some.field-0) c.in-Ok-Some.ensures.frame) has) c.in-Err-open_lines.ensures.stops
