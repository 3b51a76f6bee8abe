use Rattle.osm_kept.proofs.KeptLemmas.{other_head, rest_tells}
use Rattle.osm_kept.proofs.own.is_start.Goals as goal

pub returns-then-has_head : goal.returns-then-has_head
returns-then-has_head c =
    rest_tells c.args.version c.args.head c.args.filter.now c.args.objects c.args.start.now c.has_head.result c.has_lists.result
    c.if-has_head.true c.has_head.ensures c.has_lists.ensures

pub returns-else-has_head : goal.returns-else-has_head
returns-else-has_head c = (
  (λ yes. absurd (let bad = yes in cc)),
  (λ same. absurd (other_head c.args.version c.args.head c.args.filter.now c.args.objects c.args.start.now c.has_head.result c.if-has_head.false
      c.has_head.ensures same)),
)
