use Rattle.std.proofs.Common.{ap, subst, sym}
use Rattle.std.specs.Prelude.{IsTrue}
use Rattle.osm_store.specs.Frames.{IsKnown}
use Rattle.osm_publisher.specs.Published.{PublishedTexts}
use Rattle.osm_runs.specs.Folder.{IsFolderOf}
use Rattle.osm_publishing.proofs.PublishLemmas.{cut_keeps, made_writes, ready_adds, ready_others}
use Rattle.osm_publishing.proofs.OutLemmas.{writes_publish_out}
use Rattle.osm_publishing.proofs.RefusalLemmas.{cut_off, not_ready}
use Rattle.osm_runs.proofs.ResultLemmas.{same_err, same_result}
use Rattle.osm_publishing.specs.Publication.{PublishesOver}
use Rattle.osm_publishing.specs.Steps.Publishing.{WritesOut}
use Rattle.osm_publishing.proofs.publish.publish_run.Goals as goal

pub returns-in_err-write_files-clause-others : goal.returns-in_err-write_files-clause-others
returns-in_err-write_files-clause-others g c = λ yes name apart.
    let then : IsKnown (g.S.Store.state c.prepare.new.store) = subst IsTrue (sym c.prepare.ensures.frame.makes.known) yes in
    let m = c.in_ok-made.ensures.made in
    let cut = c.in_err-write_files.ensures.cut in
    ready_others c.args.dir.now c.args.changes.now c.args.now.now name (g.S.Store.state c.args.store.now).files (g.S.Store.state c.write_files.new.store).files
    m.publisher m.time cut.count (m.ready yes) apart
    (made_writes _ c.args.dir.now c.args.changes.now c.args.now.now _ (g.S.Store.state c.prepare.new.store).files _
    c.in_ok-made.made m cut.count c.prepare.ensures.frame.files (cut.written then))

pub returns-clause-others : goal.returns-clause-others
returns-clause-others g c = λ yes name apart.
    let then : IsKnown (g.S.Store.state c.prepare.new.store) = subst IsTrue (sym c.prepare.ensures.frame.makes.known) yes in
    let m = c.in_ok-made.ensures.made in
    ready_others c.args.dir.now c.args.changes.now c.args.now.now name (g.S.Store.state c.args.store.now).files (g.S.Store.state c.write_files.new.store).files
    m.publisher m.time 4 (m.ready yes) apart
    (made_writes _ c.args.dir.now c.args.changes.now c.args.now.now _ (g.S.Store.state c.prepare.new.store).files _
    c.in_ok-made.made m 4 c.prepare.ensures.frame.files (c.in_ok-write_files.ensures.written then))

pub returns-in_err-write_files-clause-out : goal.returns-in_err-write_files-clause-out
returns-in_err-write_files-clause-out g c =
    same_err _ c.from_residual-in_err-write_files.result _ c.from_residual-in_err-write_files.ensures.1 (λ yes.
    (let then : IsKnown (g.S.Store.state c.prepare.new.store) = subst IsTrue (sym c.prepare.ensures.frame.makes.known) yes in
    let m = c.in_ok-made.ensures.made in
    writes_publish_out c.args.dir.now (g.S.Store.state c.args.store.now).files m.publisher.number m.publisher.time _
    (g.S.Store.state c.prepare.new.store).left _
    (m.ready yes).read.goes_on c.in_ok-made.ensures.frame.makes.spent c.in_ok-made.ensures.frame.at_most.spent
    (subst (λ n. WritesOut n (g.S.Store.state c.prepare.new.store).left c.in_err-write_files.field-0.0)
    (ap (λ (p : PublishedTexts). p.number) m.published_is) (c.in_err-write_files.ensures.out then))))

pub returns-in_err-made-clause-over : goal.returns-in_err-made-clause-over
returns-in_err-made-clause-over g c = λ yes p is.
    same_result (PublishesOver p c.args.dir.now c.args.changes.now c.args.now.now (g.S.Store.state c.args.store.now).files
    (g.S.Store.state c.prepare.new.store).files) c.from_residual.result _ c.from_residual.ensures.1 (record {
      added = tt;
      refuses = not_ready c.laws_of_state.ensures.no_fault_beside_state _ p c.args.dir.now c.args.changes.now
          c.args.now.now _ _ yes is c.in_err-made.ensures.stops;
      keeps = subst (λ f. IsFolderOf p f c.args.dir.now) (sym c.prepare.ensures.frame.files) is;
    })

pub returns-in_err-write_files-clause-over : goal.returns-in_err-write_files-clause-over
returns-in_err-write_files-clause-over g c = λ yes p is.
    (let then : IsKnown (g.S.Store.state c.prepare.new.store) = subst IsTrue (sym c.prepare.ensures.frame.makes.known) yes in
    let m = c.in_ok-made.ensures.made in
    let cut = c.in_err-write_files.ensures.cut in
    same_result (PublishesOver p c.args.dir.now c.args.changes.now c.args.now.now (g.S.Store.state c.args.store.now).files
    (g.S.Store.state c.write_files.new.store).files) c.from_residual-in_err-write_files.result _
    c.from_residual-in_err-write_files.ensures.1 (record {
      added = tt;
      refuses = cut_off p c.args.now.now _ cut.count _ cut.cut;
      keeps = cut_keeps p c.args.dir.now c.args.changes.now c.args.now.now (g.S.Store.state c.args.store.now).files
          (g.S.Store.state c.write_files.new.store).files m.publisher m.time cut.count (m.ready yes) cut.few
          (made_writes _ c.args.dir.now c.args.changes.now c.args.now.now _ (g.S.Store.state c.prepare.new.store).files _
          c.in_ok-made.made m cut.count c.prepare.ensures.frame.files (cut.written then)) is;
    }))

pub returns-clause-over : goal.returns-clause-over
returns-clause-over g c = λ yes p is.
    let then : IsKnown (g.S.Store.state c.prepare.new.store) = subst IsTrue (sym c.prepare.ensures.frame.makes.known) yes in
    let m = c.in_ok-made.ensures.made in
    record {
      added = ready_adds p c.args.dir.now c.args.changes.now c.args.now.now (g.S.Store.state c.args.store.now).files
          (g.S.Store.state c.write_files.new.store).files m.publisher m.time c.in_ok-made.made.report (m.ready yes)
          (made_writes _ c.args.dir.now c.args.changes.now c.args.now.now _ (g.S.Store.state c.prepare.new.store).files _
          c.in_ok-made.made m 4 c.prepare.ensures.frame.files (c.in_ok-write_files.ensures.written then))
          m.report_is is;
      refuses = tt;
      keeps = tt;
    }
