use Rattle.std.proofs.Common.{inl, refl, sym, subst}
use Rattle.osm_kept.specs.Laying.{IsLaid, LaysOver, kept_in}
use Rattle.osm_kept.specs.Names.{journal_name_of}
use Rattle.osm_kept.specs.Refusal.{HasNoOther}
use Rattle.osm_store.specs.Files.{Files}
use Rattle.osm_store.specs.Frames.{IsKnown}
use Rattle.osm_runs.specs.declared.fault.RunFault.{RunFault}
use Rattle.osm_runs.proofs.KeepingLemmas.{few_taken}
use Rattle.osm_printing.specs.Keeping.{IsKeptNotPrinted, IsKeptPrinted}
use Rattle.osm_printing.proofs.KeptLemmas.{laid_stop, same_files}
use Rattle.osm_printing.proofs.kept.show_kept.Goals as goal

pub returns-in-Ok-None-clause-not_printed : goal.returns-in-Ok-None-clause-not_printed
returns-in-Ok-None-clause-not_printed g c =
    inl (record { stops = (refl, rw c.in-Ok-None.field-0-is at c.in-Ok-None.ensures.laid); nothing = refl })

pub returns-in-Err-clause-not_printed : goal.returns-in-Err-clause-not_printed
returns-in-Err-clause-not_printed g c =
    let a = g.S.Store.state c.args.store.now in
    let p = g.W.Write.contents c.args.writer.now in
    subst (λ (x : RunFault). IsKeptNotPrinted (IsKnown a) c.args.save.now a.files p p x) (sym c.kept_fault.ensures)
    (laid_stop (IsKnown a) c.args.save.now a.files p c.in-Err.fault c.in-Err.ensures.refused)

pub show_laid-requires-clause-lays : goal.show_laid-requires-clause-lays
show_laid-requires-clause-lays g c =
    let save = c.args.save.now in
    same_files (g.S.Store.state c.read_laid.new.store) (g.S.Store.state c.args.store.now)
    (λ (known : Type 0) (files : Files). known → LaysOver (files save) (files (journal_name_of save)) c.in-Ok-Some.laid)
    (sym c.in-Ok-Some.ensures.frame.files) (sym c.in-Ok-Some.ensures.frame.makes.known)
    (rw c.in-Ok-Some.field-0-is at c.in-Ok-Some.ensures.laid)

pub show_laid-requires-clause-free : goal.show_laid-requires-clause-free
show_laid-requires-clause-free g c =
    let save = c.args.save.now in
    same_files (g.S.Store.state c.read_laid.new.store) (g.S.Store.state c.args.store.now)
    (λ (known : Type 0) (files : Files). known → HasNoOther (files save) (files (journal_name_of save)))
    (sym c.in-Ok-Some.ensures.frame.files) (sym c.in-Ok-Some.ensures.frame.makes.known) c.in-Ok-Some.ensures.free

pub show_laid-requires-clause-few : goal.show_laid-requires-clause-few
show_laid-requires-clause-few g c =
    let is : IsLaid c.in-Ok-Some.laid = rw c.in-Ok-Some.field-0-is at c.in-Ok-Some.ensures.plain in
    few_taken (kept_in is.start c.in-Ok-Some.laid) is.taken

pub returns-in-Ok-clause-printed : goal.returns-in-Ok-clause-printed
returns-in-Ok-clause-printed g c =
    same_files (g.S.Store.state c.args.store.now) (g.S.Store.state c.read_laid.new.store)
    (λ (known : Type 0) (files : Files). IsKeptPrinted known c.args.save.now files (g.W.Write.contents c.args.writer.now)
    (g.W.Write.contents c.show_laid.new.writer))
    c.in-Ok-Some.ensures.frame.files c.in-Ok-Some.ensures.frame.makes.known c.in-Ok.ensures.printed

pub returns-clause-not_printed : goal.returns-clause-not_printed
returns-clause-not_printed g c =
    same_files (g.S.Store.state c.args.store.now) (g.S.Store.state c.read_laid.new.store)
    (λ (known : Type 0) (files : Files). IsKeptNotPrinted known c.args.save.now files (g.W.Write.contents c.args.writer.now)
    (g.W.Write.contents c.show_laid.new.writer) c.in-Err-show_laid.fault)
    c.in-Ok-Some.ensures.frame.files c.in-Ok-Some.ensures.frame.makes.known c.in-Err-show_laid.ensures.not_printed
