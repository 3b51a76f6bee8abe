use Rattle.std.proofs.Common.{[], false, inr, ◌∙◌}
use Rattle.osm_blocks.proofs.OftenLemmas.{often_then}
use Rattle.osm_repl.specs.Getting.{AreSought, IsStoreFault}
use Rattle.osm_repl.specs.Steps.Getting.{at}
use Rattle.osm_repl.proofs.GotLemmas.{asked_first, got_referred, got_words, later_blames, open_blames, opened_often}
use Rattle.osm_repl.proofs.GotLemmas.{part_referred, part_words, refused_blames}
use Rattle.osm_repl.proofs.asking.get_and_print.Goals as goal
use Rattle.osm_repl.proofs.asking.get_and_print.Goals.{then-referred+in-Ok-print_referred, else-referred}

-- a part of what the words ask for was printed
pub returns-in-Err-print_sought-clause-not_got : goal.returns-in-Err-print_sought-clause-not_got
returns-in-Err-print_sought-clause-not_got g c =
    let sought : AreSought c.args.search.words.now c.as_slice.result.now = rw c.as_slice.ensures.value c.in-Ok.ensures.sought in
    rw c.in-Get.is
    (inr (part_words c.args.search.layout c.in-Get.save.now c.in-Get.referred c.args.search.words.now (g.S.Store.state c.args.store.now)
    (g.R.Read.remaining c.args.reader.now) c.as_slice.result.now
    (at (g.S.Store.state c.open.new.store) (record { save = c.in-Get.save; asking = c.in-Ok-open.asking; is_read = false })
    (g.W.Write.contents c.args.writer.now) c.args.notes.now.lines.items) _ _ _ _ sought
    (asked_first c.args.search.layout c.in-Get.save _ _ c.in-Ok-open.asking c.form_of-form.result false _ _ c.in-Ok-open.ensures.frame.files
    c.in-Ok-open.ensures.frame.known c.in-Ok-open.ensures.opened c.in-Ok-open.ensures.form c.form_of-form.ensures)
    c.requires.no_lines c.in-Err-print_sought.ensures.cut))

-- and a part of what that refers to
pub returns-in-Err-print_referred-clause-not_got : goal.returns-in-Err-print_referred-clause-not_got
returns-in-Err-print_referred-clause-not_got g c =
    let sought : AreSought c.args.search.words.now c.as_slice.result.now = rw c.as_slice.ensures.value c.in-Ok.ensures.sought in
    rw (c.in-Get.is, c.if-referred.true, c.in-Ok-print_sought.ensures.unnoted)
    (inr (part_referred c.args.search.layout c.in-Get.save.now c.args.search.words.now (g.S.Store.state c.args.store.now)
    (g.R.Read.remaining c.args.reader.now) c.as_slice.result.now
    (at (g.S.Store.state c.open.new.store) (record { save = c.in-Get.save; asking = c.in-Ok-open.asking; is_read = false })
    (g.W.Write.contents c.args.writer.now) c.args.notes.now.lines.items) _ _ _ [] _ sought
    (asked_first c.args.search.layout c.in-Get.save _ _ c.in-Ok-open.asking c.form_of-form.result false _ _ c.in-Ok-open.ensures.frame.files
    c.in-Ok-open.ensures.frame.known c.in-Ok-open.ensures.opened c.in-Ok-open.ensures.form c.form_of-form.ensures)
    c.requires.no_lines c.in-Ok-print_sought.ensures.shown (c.in-Ok-open.ensures.refers ∙ c.if-referred.true) c.in-Ok-open.ensures.noted
    c.in-Err-print_referred.ensures.cut))

-- or all of it
pub returns-clause-got : goal.returns-clause-got
returns-clause-got g c =
    let sought : AreSought c.args.search.words.now c.as_slice.result.now = rw c.as_slice.ensures.value c.in-Ok.ensures.sought in
    elim c.if-referred.branch [
      | then-referred+in-Ok-print_referred w ↦ rw (c.in-Get.is, w.if-referred.true, c.status_of.ensures, c.as_slice-2.ensures.value, w.writer-is, w.notes-is)
          (got_referred c.args.search.layout c.in-Get.save.now c.args.search.words.now (g.S.Store.state c.args.store.now)
          (g.R.Read.remaining c.args.reader.now) c.as_slice.result.now
          (at (g.S.Store.state c.open.new.store) (record { save = c.in-Get.save; asking = c.in-Ok-open.asking; is_read = false })
          (g.W.Write.contents c.args.writer.now) c.args.notes.now.lines.items) _
          (at (g.S.Store.state w.print_referred.new.store) w.print_referred.new.question (g.W.Write.contents w.print_referred.new.writer)
          w.print_referred.new.lines.items) sought
          (asked_first c.args.search.layout c.in-Get.save _ _ c.in-Ok-open.asking c.form_of-form.result false _ _ c.in-Ok-open.ensures.frame.files
          c.in-Ok-open.ensures.frame.known c.in-Ok-open.ensures.opened c.in-Ok-open.ensures.form c.form_of-form.ensures)
          c.requires.no_lines c.in-Ok-print_sought.ensures.shown (c.in-Ok-open.ensures.refers ∙ w.if-referred.true) c.in-Ok-open.ensures.noted
          w.in-Ok-print_referred.ensures.told)
      | else-referred w ↦ rw (c.in-Get.is, w.if-referred.false, c.status_of.ensures, c.as_slice-2.ensures.value, w.writer-is, w.notes-is)
          (got_words c.args.search.layout c.in-Get.save.now c.args.search.words.now (g.S.Store.state c.args.store.now)
          (g.R.Read.remaining c.args.reader.now) c.as_slice.result.now
          (at (g.S.Store.state c.open.new.store) (record { save = c.in-Get.save; asking = c.in-Ok-open.asking; is_read = false })
          (g.W.Write.contents c.args.writer.now) c.args.notes.now.lines.items)
          (at (g.S.Store.state c.print_sought.new.store) c.print_sought.new.question (g.W.Write.contents c.print_sought.new.writer)
          c.print_sought.new.notes.lines.items) sought
          (asked_first c.args.search.layout c.in-Get.save _ _ c.in-Ok-open.asking c.form_of-form.result false _ _ c.in-Ok-open.ensures.frame.files
          c.in-Ok-open.ensures.frame.known c.in-Ok-open.ensures.opened c.in-Ok-open.ensures.form c.form_of-form.ensures)
          c.requires.no_lines c.in-Ok-print_sought.ensures.shown)
    ]

-- ---- the device is blamed only if it failed

pub returns-in-Err-clause-blamed : goal.returns-in-Err-clause-blamed
returns-in-Err-clause-blamed g c = refused_blames _ _ c.in-Err.fault _ _ c.in-Err.ensures.refused

pub returns-in-Err-open-clause-blamed : goal.returns-in-Err-open-clause-blamed
returns-in-Err-open-clause-blamed g c = rw c.ask_fault.ensures (open_blames c.in-Err-open.fault _ _ c.in-Err-open.ensures.frame.failed)

pub returns-in-Err-print_sought-clause-blamed : goal.returns-in-Err-print_sought-clause-blamed
returns-in-Err-print_sought-clause-blamed g c =
    later_blames (g.S.Store.state c.args.store.now) (g.S.Store.state c.open.new.store) (g.S.Store.state c.print_sought.new.store)
    c.in-Err-print_sought.fault
    (opened_often (g.S.Store.state c.args.store.now) (g.S.Store.state c.open.new.store) c.in-Ok-open.asking c.in-Ok-open.ensures.frame)
    c.in-Err-print_sought.ensures.frame

pub returns-in-Err-print_referred-clause-blamed : goal.returns-in-Err-print_referred-clause-blamed
returns-in-Err-print_referred-clause-blamed g c =
    later_blames (g.S.Store.state c.args.store.now) (g.S.Store.state c.print_sought.new.store) (g.S.Store.state c.print_referred.new.store)
    c.in-Err-print_referred.fault
    (often_then {V = Unit {0}} IsStoreFault (g.S.Store.state c.args.store.now) (g.S.Store.state c.open.new.store)
    (g.S.Store.state c.print_sought.new.store) tt tt tt
    (opened_often (g.S.Store.state c.args.store.now) (g.S.Store.state c.open.new.store) c.in-Ok-open.asking c.in-Ok-open.ensures.frame)
    c.in-Ok-print_sought.ensures.frame)
    c.in-Err-print_referred.ensures.frame
