use Rattle.std.proofs.Common.{◌≡◌, ℕ, ap, arith, inl, inr, subst, sym, ◌∙◌}
use Rattle.std.specs.Prelude.{IsTrue, Ok, Err}
use Rattle.osm_store.specs.Frames.{IsKnown, Makes, StoreState}
use Rattle.osm_publisher.specs.Published.{PublishedTexts, written_of}
use Rattle.osm_runs.specs.Folder.{IsFolderOf}
use Rattle.osm_publishing.specs.Numbered.{PublishesAsOver, SpendsExactly, numbered_calls}
use Rattle.osm_runs.specs.Runs.{CallsFromTo, IsDeviceFault, LacksCalls}
use Rattle.osm_publishing.specs.Steps.Numbering.{asked_for}
use Rattle.osm_publishing.specs.Steps.Publishing.{WritesOut, from_top}
use Rattle.osm_runs.specs.declared.fault.RunFault.{RunFault}
use Rattle.osm_publishing.proofs.FolderLemmas.{writes_others}
use Rattle.osm_store.proofs.FrameLemmas.{makes_both}
use Rattle.osm_publishing.proofs.NumberedLemmas.{made_writes, number_to_write, numbered_adds, numbered_keeps}
use Rattle.osm_publishing.proofs.NumberedLemmas.{cut_refuses, numbered_refuses, one_sequence, one_top, prepare_stops}
use Rattle.osm_publishing.proofs.OutLemmas.{calls_before_write, out_lacks, writes_numbered_out, writing_calls}
use Rattle.osm_runs.proofs.ResultLemmas.{same_err, same_result}
use Rattle.osm_publishing.proofs.publish_as.publish_as_run.Goals as goal

-- a publication that is cut off
cut_frame : {T U V W : Type 0} (j : ℕ) (a b c d : StoreState) (x : T) (y : U) (fault : RunFault)
    → Makes IsDeviceFault 2 a b (Ok x) → Makes IsDeviceFault j b c (Ok y) → Makes {T = V} IsDeviceFault 4 c d (Err fault)
    → (IsKnown a → LacksCalls 9 a.left fault) → CallsFromTo {T = W} 5 9 a d (Err fault)
cut_frame j a b c d x y fault first second third lacks =
    let before = makes_both IsDeviceFault 2 j 2 a b c x (Ok y) (omega arith) first second in
    let all = makes_both IsDeviceFault 2 4 5 a c d y (Err fault) (omega arith) before third in
    record {
      makes = record { known = all.known; left = all.left; failures = all.failures; spent = tt; failed = all.failed };
      at_most = record { spent = tt; lacks = lacks };
    }

pub returns-in_err-made-clause-stops : goal.returns-in_err-made-clause-stops
returns-in_err-made-clause-stops g c =
    let a = c.in_ok-asked.asked in
    same_err _ c.from_residual-in_err-made.result _ c.from_residual-in_err-made.ensures.1 (inl (
      prepare_stops (IsKnown (g.S.Store.state c.args.store.now)) c.args.dir.now c.args.changes.now c.args.now.now
          c.args.sequence.now (g.S.Store.state c.args.store.now).files
          (from_top a.top).number (from_top a.top).time (asked_for a) _ c.in_ok-asked.ensures.asked
          c.in_ok-asked.ensures.words.now_is c.in_ok-asked.ensures.words.number_is
          (rw (c.read_asked.ensures.frame.makes.known, c.read_asked.ensures.frame.files) at c.in_err-made.ensures.stops),
      c.prepare.ensures.frame.files ∙ c.read_asked.ensures.frame.files,
    ))

pub returns-in_err-write_files-clause-out : goal.returns-in_err-write_files-clause-out
returns-in_err-write_files-clause-out g c =
    let a = c.in_ok-asked.asked in
    same_err _ c.from_residual-in_err-write_files.result _ c.from_residual-in_err-write_files.ensures.1 (λ yes.
    (let then : IsKnown (g.S.Store.state c.read_asked.new.store) = subst IsTrue (sym c.read_asked.ensures.frame.makes.known) yes in
    let later : IsKnown (g.S.Store.state c.prepare.new.store) = subst IsTrue (sym c.prepare.ensures.frame.makes.known) then in
    let m = (rw c.in-Some.is at c.in_ok-made.ensures.made).1 in
    writes_numbered_out c.args.dir.now c.args.sequence.now (g.S.Store.state c.args.store.now).files a.number (from_top a.top).number (from_top a.top).time
    (g.S.Store.state c.args.store.now).left (g.S.Store.state c.prepare.new.store).left _
    c.in_ok-asked.ensures.words.number_is (c.in_ok-asked.ensures.asked yes).goes_on
    (calls_before_write a.number (from_top a.top).number (g.S.Store.state c.args.store.now).left
    (g.S.Store.state c.read_asked.new.store).left (g.S.Store.state c.prepare.new.store).left
    (c.in_ok-asked.ensures.frame.makes.spent, c.in_ok-asked.ensures.frame.at_most.spent)
    (c.in_ok-made.ensures.frame.makes.spent, c.in_ok-made.ensures.frame.at_most.spent))
    (subst (λ n. WritesOut n (g.S.Store.state c.prepare.new.store).left c.in_err-write_files.field-0.0)
    (ap (λ (p : PublishedTexts). p.number) m.published_is) (c.in_err-write_files.ensures.out later))))

pub returns-in_err-write_files-clause-others : goal.returns-in_err-write_files-clause-others
returns-in_err-write_files-clause-others g c = λ yes name apart.
    (let a = c.in_ok-asked.asked in
    let then : IsKnown (g.S.Store.state c.read_asked.new.store) = subst IsTrue (sym c.read_asked.ensures.frame.makes.known) yes in
    let later : IsKnown (g.S.Store.state c.prepare.new.store) = subst IsTrue (sym c.prepare.ensures.frame.makes.known) then in
    let m = (rw c.in-Some.is at c.in_ok-made.ensures.made).1 in
    let cut = c.in_err-write_files.ensures.cut in
    writes_others c.args.dir.now name (written_of (asked_for a)) cut.count (g.S.Store.state c.args.store.now).files
    (g.S.Store.state c.write_files.new.store).files c.in_ok-asked.ensures.words.most apart
    (made_writes c.args.dir.now (asked_for a) (g.S.Store.state c.args.store.now).files (g.S.Store.state c.prepare.new.store).files
    (g.S.Store.state c.write_files.new.store).files c.in-Some.made m cut.count
    (c.prepare.ensures.frame.files ∙ c.read_asked.ensures.frame.files) (cut.written later)))

pub returns-clause-others : goal.returns-clause-others
returns-clause-others g c = λ yes name apart.
    (let a = c.in_ok-asked.asked in
    let then : IsKnown (g.S.Store.state c.read_asked.new.store) = subst IsTrue (sym c.read_asked.ensures.frame.makes.known) yes in
    let later : IsKnown (g.S.Store.state c.prepare.new.store) = subst IsTrue (sym c.prepare.ensures.frame.makes.known) then in
    let m = (rw c.in-Some.is at c.in_ok-made.ensures.made).1 in
    writes_others c.args.dir.now name (written_of (asked_for a)) 4 (g.S.Store.state c.args.store.now).files
    (g.S.Store.state c.write_files.new.store).files c.in_ok-asked.ensures.words.most apart
    (made_writes c.args.dir.now (asked_for a) (g.S.Store.state c.args.store.now).files (g.S.Store.state c.prepare.new.store).files
    (g.S.Store.state c.write_files.new.store).files c.in-Some.made m 4
    (c.prepare.ensures.frame.files ∙ c.read_asked.ensures.frame.files) (c.in_ok-write_files.ensures.written later)))

pub returns-clause-exact : goal.returns-clause-exact
returns-clause-exact g c = λ yes number top time spelled goes_on.
    (let a = c.in_ok-asked.asked in
    let m = (rw (c.read_asked.ensures.frame.makes.known, c.read_asked.ensures.frame.files, c.in-Some.is) at c.in_ok-made.ensures.made) in
    let n : a.number ≡ number = one_sequence c.args.sequence.now a.number number c.in_ok-asked.ensures.words.number_is spelled in
    let t = (one_top _ (from_top a.top).number top (from_top a.top).time time (c.in_ok-asked.ensures.asked yes).goes_on goes_on).0 in
    subst (λ k. SpendsExactly (numbered_calls k top) (g.S.Store.state c.args.store.now).left (g.S.Store.state c.write_files.new.store).left) n
    (subst (λ k. SpendsExactly (numbered_calls a.number k) (g.S.Store.state c.args.store.now).left (g.S.Store.state c.write_files.new.store).left) t
    (writing_calls a.number (from_top a.top).number (g.S.Store.state c.args.store.now).left
    (g.S.Store.state c.prepare.new.store).left (g.S.Store.state c.write_files.new.store).left
    (number_to_write _ c.args.dir.now (from_top a.top).number (from_top a.top).time (asked_for a) (m.0 yes))
    (calls_before_write a.number (from_top a.top).number (g.S.Store.state c.args.store.now).left
    (g.S.Store.state c.read_asked.new.store).left (g.S.Store.state c.prepare.new.store).left
    (c.in_ok-asked.ensures.frame.makes.spent, c.in_ok-asked.ensures.frame.at_most.spent)
    (c.in_ok-made.ensures.frame.makes.spent, c.in_ok-made.ensures.frame.at_most.spent))
    (c.in_ok-write_files.ensures.frame.makes.spent, c.in_ok-write_files.ensures.frame.at_most.spent))))

pub returns-in_err-asked-clause-over : goal.returns-in_err-asked-clause-over
returns-in_err-asked-clause-over g c = λ yes p is.
    same_result (PublishesAsOver p c.args.dir.now c.args.changes.now c.args.now.now c.args.sequence.now
    (g.S.Store.state c.args.store.now).files (g.S.Store.state c.read_asked.new.store).files)
    c.from_residual.result _ c.from_residual.ensures.1 (record {
      added = tt;
      refuses = numbered_refuses c.laws_of_state.ensures.no_fault_beside_state _ p c.args.dir.now c.args.changes.now
          c.args.now.now c.args.sequence.now (g.S.Store.state c.args.store.now).files _ yes is c.in_err-asked.ensures.stops;
      keeps = subst (λ f. IsFolderOf p f c.args.dir.now) (sym c.read_asked.ensures.frame.files) is;
    })

pub returns-in_err-made-clause-over : goal.returns-in_err-made-clause-over
returns-in_err-made-clause-over g c = λ yes p is.
    (let a = c.in_ok-asked.asked in
    same_result (PublishesAsOver p c.args.dir.now c.args.changes.now c.args.now.now c.args.sequence.now
    (g.S.Store.state c.args.store.now).files (g.S.Store.state c.prepare.new.store).files)
    c.from_residual-in_err-made.result _ c.from_residual-in_err-made.ensures.1 (record {
      added = tt;
      refuses = numbered_refuses c.laws_of_state.ensures.no_fault_beside_state (IsKnown (g.S.Store.state c.args.store.now)) p
          c.args.dir.now c.args.changes.now c.args.now.now c.args.sequence.now (g.S.Store.state c.args.store.now).files _ yes is
          (prepare_stops (IsKnown (g.S.Store.state c.args.store.now)) c.args.dir.now c.args.changes.now c.args.now.now
          c.args.sequence.now (g.S.Store.state c.args.store.now).files
          (from_top a.top).number (from_top a.top).time (asked_for a) _ c.in_ok-asked.ensures.asked
          c.in_ok-asked.ensures.words.now_is c.in_ok-asked.ensures.words.number_is
          (rw (c.read_asked.ensures.frame.makes.known, c.read_asked.ensures.frame.files) at c.in_err-made.ensures.stops));
      keeps = subst (λ f. IsFolderOf p f c.args.dir.now)
          (sym (c.prepare.ensures.frame.files ∙ c.read_asked.ensures.frame.files)) is;
    }))

pub returns-in_default-clause-over : goal.returns-in_default-clause-over
returns-in_default-clause-over g c = λ yes p is.
    (let a = c.in_ok-asked.asked in
    let old = (rw (c.read_asked.ensures.frame.makes.known, c.read_asked.ensures.frame.files, c.in_default.is) at c.in_ok-made.ensures.made) in
    record {
      added = numbered_adds p c.args.dir.now c.args.changes.now c.args.now.now c.args.sequence.now
          (g.S.Store.state c.args.store.now).files (g.S.Store.state c.prepare.new.store).files
          (from_top a.top).number (from_top a.top).time (asked_for a) _ (c.in_ok-asked.ensures.asked yes) c.in_ok-asked.ensures.words.most
          (inr (old.0, old.1 yes, c.prepare.ensures.frame.files ∙ c.read_asked.ensures.frame.files)) c.in_ok-publish_report.ensures is;
      refuses = tt;
      keeps = tt;
    })

pub returns-in_err-write_files-clause-over : goal.returns-in_err-write_files-clause-over
returns-in_err-write_files-clause-over g c = λ yes p is.
    (let a = c.in_ok-asked.asked in
    let then : IsKnown (g.S.Store.state c.read_asked.new.store) = subst IsTrue (sym c.read_asked.ensures.frame.makes.known) yes in
    let later : IsKnown (g.S.Store.state c.prepare.new.store) = subst IsTrue (sym c.prepare.ensures.frame.makes.known) then in
    let m = (rw (c.read_asked.ensures.frame.makes.known, c.read_asked.ensures.frame.files, c.in-Some.is) at c.in_ok-made.ensures.made) in
    let cut = c.in_err-write_files.ensures.cut in
    same_result (PublishesAsOver p c.args.dir.now c.args.changes.now c.args.now.now c.args.sequence.now
    (g.S.Store.state c.args.store.now).files (g.S.Store.state c.write_files.new.store).files)
    c.from_residual-in_err-write_files.result _ c.from_residual-in_err-write_files.ensures.1 (record {
      added = tt;
      refuses = cut_refuses p c.args.dir.now c.args.changes.now c.args.now.now c.args.sequence.now
          (g.S.Store.state c.args.store.now).files _ cut.count _ cut.cut;
      keeps = numbered_keeps p c.args.dir.now c.args.changes.now c.args.now.now c.args.sequence.now
          (g.S.Store.state c.args.store.now).files (g.S.Store.state c.write_files.new.store).files
          (from_top a.top).number (from_top a.top).time cut.count (asked_for a) (c.in_ok-asked.ensures.asked yes)
          c.in_ok-asked.ensures.words.most (m.0 yes) m.1.fits cut.few
          (made_writes c.args.dir.now (asked_for a) (g.S.Store.state c.args.store.now).files (g.S.Store.state c.prepare.new.store).files
          (g.S.Store.state c.write_files.new.store).files c.in-Some.made m.1 cut.count
          (c.prepare.ensures.frame.files ∙ c.read_asked.ensures.frame.files) (cut.written later)) is;
    }))

pub returns-clause-over : goal.returns-clause-over
returns-clause-over g c = λ yes p is.
    (let a = c.in_ok-asked.asked in
    let then : IsKnown (g.S.Store.state c.read_asked.new.store) = subst IsTrue (sym c.read_asked.ensures.frame.makes.known) yes in
    let later : IsKnown (g.S.Store.state c.prepare.new.store) = subst IsTrue (sym c.prepare.ensures.frame.makes.known) then in
    let m = (rw (c.read_asked.ensures.frame.makes.known, c.read_asked.ensures.frame.files, c.in-Some.is) at c.in_ok-made.ensures.made) in
    record {
      added = numbered_adds p c.args.dir.now c.args.changes.now c.args.now.now c.args.sequence.now
          (g.S.Store.state c.args.store.now).files (g.S.Store.state c.write_files.new.store).files
          (from_top a.top).number (from_top a.top).time (asked_for a) c.in-Some.made.report (c.in_ok-asked.ensures.asked yes) c.in_ok-asked.ensures.words.most
          (inl (
            m.0 yes,
            m.1.fits,
            made_writes c.args.dir.now (asked_for a) (g.S.Store.state c.args.store.now).files (g.S.Store.state c.prepare.new.store).files
                (g.S.Store.state c.write_files.new.store).files c.in-Some.made m.1 4
                (c.prepare.ensures.frame.files ∙ c.read_asked.ensures.frame.files) (c.in_ok-write_files.ensures.written later),
          ))
          m.1.report_is is;
      refuses = tt;
      keeps = tt;
    })

pub returns-in_err-write_files-clause-frame : goal.returns-in_err-write_files-clause-frame
returns-in_err-write_files-clause-frame g c =
    let a = c.in_ok-asked.asked in
    same_result (CallsFromTo 5 9 (g.S.Store.state c.args.store.now) (g.S.Store.state c.write_files.new.store))
    c.from_residual-in_err-write_files.result _ c.from_residual-in_err-write_files.ensures.1
    (cut_frame _ _ _ _ _ _ _ _ c.in_ok-asked.ensures.frame.makes c.in_ok-made.ensures.frame.makes
    c.in_err-write_files.ensures.frame.makes (λ yes.
    (let then : IsKnown (g.S.Store.state c.read_asked.new.store) = subst IsTrue (sym c.read_asked.ensures.frame.makes.known) yes in
    let later : IsKnown (g.S.Store.state c.prepare.new.store) = subst IsTrue (sym c.prepare.ensures.frame.makes.known) then in
    let m = (rw c.in-Some.is at c.in_ok-made.ensures.made).1 in
    out_lacks c.args.dir.now c.args.sequence.now (g.S.Store.state c.args.store.now).files (g.S.Store.state c.args.store.now).left _
    (writes_numbered_out c.args.dir.now c.args.sequence.now (g.S.Store.state c.args.store.now).files a.number (from_top a.top).number
    (from_top a.top).time (g.S.Store.state c.args.store.now).left (g.S.Store.state c.prepare.new.store).left _
    c.in_ok-asked.ensures.words.number_is (c.in_ok-asked.ensures.asked yes).goes_on
    (calls_before_write a.number (from_top a.top).number (g.S.Store.state c.args.store.now).left
    (g.S.Store.state c.read_asked.new.store).left (g.S.Store.state c.prepare.new.store).left
    (c.in_ok-asked.ensures.frame.makes.spent, c.in_ok-asked.ensures.frame.at_most.spent)
    (c.in_ok-made.ensures.frame.makes.spent, c.in_ok-made.ensures.frame.at_most.spent))
    (subst (λ n. WritesOut n (g.S.Store.state c.prepare.new.store).left c.in_err-write_files.field-0.0)
    (ap (λ (p : PublishedTexts). p.number) m.published_is) (c.in_err-write_files.ensures.out later))))))
