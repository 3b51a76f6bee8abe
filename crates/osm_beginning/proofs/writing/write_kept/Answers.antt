use Rattle.std.proofs.Common.{[], List, Option, ℕ, ap, refl, subst, ◌∙◌}
use Rattle.osm_beginning.proofs.PassLemmas.{kept_as, staged_as}
use Rattle.osm_beginning.specs.Steps.Passes.{AreWritten, HasNewest, IsStaged, first_text, last_text}
use Rattle.osm_merge.proofs.FrameLemmas.{known_still}
use Rattle.osm_merge.specs.Laying.{Writes}
use Rattle.osm_store.specs.Files.{Files}
use Rattle.osm_beginning.proofs.writing.write_kept.Goals as goal

pub returns-clause-staged : goal.returns-clause-staged
returns-clause-staged g c = λ known.
    let a = g.S.Store.state c.args.store.now in
    let b = g.S.Store.state c.begin.new.store in
    let d = g.S.Store.state c.put_first.new.store in
    let e = g.S.Store.state c.put_objects.new.store in
    let z = g.S.Store.state c.put_last.new.store in
    let known_b = known_still a b c.in_ok-begin.field-0 c.in_ok-begin.ensures.appends.frame known in
    let known_d = known_still b d c.in_ok-put_first.field-0 c.in_ok-put_first.ensures.appends.frame known_b in
    let known_e = known_still d e c.in_ok-written.written c.in_ok-written.ensures.frame known_d in
    let first = first_text c.args.wanted.now.head c.args.wanted.now.filter.now c.args.given in
    let begun = c.in_ok-put_first.ensures.written known_b c.args.wanted.now.save.now []
    (rw c.new-writer.ensures (record { appended = []; staged = c.in_ok-begin.ensures.begun known; whole = refl; writes = refl })) in
    let w = c.args.wanted.now in
    let count = c.in_ok-written.written.count in
    kept_as g.D.DataReader.spells w.filter.now (d.files w.base.now) (a.files w.base.now)
    (AreWritten count (Writes d c.put_first.new.writer e c.put_objects.new.writer)) (IsStaged z w.save.now w.head w.filter.now c.args.given count)
    (ap (λ (f : Files). f w.base.now) (c.in_ok-put_first.ensures.appends.frame.files ∙ c.in_ok-begin.ensures.appends.frame.files))
    (λ kept. staged_as first last_text w.save.now w.head w.filter.now c.args.given count d e z c.put_first.new.writer c.put_objects.new.writer kept refl refl
    known_d known_e begun (c.in_ok-put_last.ensures.staged known_e))
    (c.in_ok-written.ensures.written known_d)

pub returns-clause-newest : goal.returns-clause-newest
returns-clause-newest g c = λ known.
    let a = g.S.Store.state c.args.store.now in
    let b = g.S.Store.state c.begin.new.store in
    let d = g.S.Store.state c.put_first.new.store in
    let known_b = known_still a b c.in_ok-begin.field-0 c.in_ok-begin.ensures.appends.frame known in
    let known_d = known_still b d c.in_ok-put_first.field-0 c.in_ok-put_first.ensures.appends.frame known_b in
    subst (λ (told : Option (List ℕ)). HasNewest g.D.DataReader.spells told c.in_ok-written.written.newest)
    (ap (λ (f : Files). f c.args.wanted.now.base.now) (c.in_ok-put_first.ensures.appends.frame.files ∙ c.in_ok-begin.ensures.appends.frame.files))
    (c.in_ok-written.ensures.newest known_d)
