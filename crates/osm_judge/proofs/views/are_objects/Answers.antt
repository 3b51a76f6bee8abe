use Rattle.std.proofs.Common.{◌≡◌}
use Rattle.osm_model.specs.Content.{content_of}
use Rattle.osm_model.specs.Filter.{kept}
use Rattle.osm_mirror.specs.Mirror.{object_at}
use Rattle.osm_judge.proofs.ViewLemmas.{right_everywhere, everywhere_in, both_ways}
use Rattle.osm_judge.proofs.views.are_objects.Goals as goal

-- right at the keys of both lists, and so at all
pub returns-then-is_first : goal.returns-then-is_first
returns-then-is_first c = (
  λ t. right_everywhere c.args.filter.now c.args.objects.now c.args.changes.now (c.in_ok-is_first.ensures.0 c.if-is_first.true) (c.in_ok-is_second.ensures.0 t),
  λ all. c.in_ok-is_second.ensures.1
      (everywhere_in (λ k. object_at c.args.objects.now k ≡ kept c.args.filter.now (content_of c.args.changes.now) k)
      (λ o. o.key) c.args.changes.now all),
)

pub returns-else-is_first : goal.returns-else-is_first
returns-else-is_first c = (
  λ t. absurd (both_ways c.in_ok-is_first.is_first c.if-is_first.false t),
  λ all. c.in_ok-is_first.ensures.1
      (everywhere_in (λ k. object_at c.args.objects.now k ≡ kept c.args.filter.now (content_of c.args.changes.now) k)
      (λ o. o.key) c.args.objects.now all),
)
