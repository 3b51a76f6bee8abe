use Rattle.std.proofs.Common.{◌≡◌}
use Rattle.osm_model.specs.Content.{edits_by_changeset}
use Rattle.osm_mirror.specs.Mirror.{count_at}
use Rattle.osm_judge.proofs.ViewLemmas.{all-cons}
use Rattle.osm_judge.proofs.views.+are_changesets_listed.Goals as goal

pub returns-then-is_changeset : goal.returns-then-is_changeset
returns-then-is_changeset t c = rw c.in-Some.ensures.cases.0
    (all-cons (λ e. count_at c.args.changesets.now e.0 ≡ edits_by_changeset c.args.changes.now e.0) c.in-Some.first.now
    c.in-Some.others.now c.are_changesets_listed.result (c.is_changeset.ensures.0 c.if-is_changeset.true)
    c.are_changesets_listed.ensures)
