use Rattle.std.proofs.Common.{◌≡◌}
use Rattle.osm_model.specs.Content.{edits_by_changeset}
use Rattle.osm_mirror.specs.Mirror.{count_at}
use Rattle.osm_judge.proofs.ViewLemmas.{all-cons, not_cons}
use Rattle.osm_judge.proofs.views.+are_changesets_of.Goals as goal

pub returns-then-is_changeset : goal.returns-then-is_changeset
returns-then-is_changeset t c = rw c.in-Some.ensures.cases.0
    (all-cons (λ d. count_at c.args.changesets.now d.meta.changeset ≡ edits_by_changeset c.args.changes.now
    d.meta.changeset) c.in-Some.first.now c.in-Some.others.now c.are_changesets_of.result
    (rw (← c.meta.ensures, ← c.changeset-id.ensures) (c.is_changeset.ensures.0 c.if-is_changeset.true))
    c.are_changesets_of.ensures)

pub returns-else-is_changeset : goal.returns-else-is_changeset
returns-else-is_changeset t c = rw c.in-Some.ensures.cases.0
    (not_cons (λ d. count_at c.args.changesets.now d.meta.changeset ≡ edits_by_changeset c.args.changes.now
    d.meta.changeset) c.in-Some.first.now c.in-Some.others.now c.is_changeset.result
    (rw (← c.meta.ensures, ← c.changeset-id.ensures) c.is_changeset.ensures.1) c.if-is_changeset.false)
