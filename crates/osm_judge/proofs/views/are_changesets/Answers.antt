use Rattle.std.proofs.Common.{◌≡◌}
use Rattle.osm_mirror.specs.Mirror.{count_at}
use Rattle.osm_model.specs.Content.{edits_by_changeset}
use Rattle.osm_judge.proofs.ViewLemmas.{changesets_everywhere, everywhere_in, both_ways}
use Rattle.osm_judge.proofs.views.are_changesets.Goals as goal

-- right for the changesets of both lists, and so for all
pub returns-then-are_changesets_listed : goal.returns-then-are_changesets_listed
returns-then-are_changesets_listed c = (
  λ t. changesets_everywhere c.args.changesets.now c.args.changes.now
      (c.are_changesets_listed.ensures.0 c.if-are_changesets_listed.true) (c.are_changesets_of.ensures.0 t),
  λ all. c.are_changesets_of.ensures.1
      (everywhere_in (λ n. count_at c.args.changesets.now n ≡ edits_by_changeset c.args.changes.now n)
      (λ d. d.meta.changeset) c.args.changes.now all),
)

pub returns-else-are_changesets_listed : goal.returns-else-are_changesets_listed
returns-else-are_changesets_listed c = (
  λ t. absurd (both_ways c.are_changesets_listed.result c.if-are_changesets_listed.false t),
  λ all. c.are_changesets_listed.ensures.1
      (everywhere_in (λ n. count_at c.args.changesets.now n ≡ edits_by_changeset c.args.changes.now n)
      (λ e. e.0) c.args.changesets.now all),
)
