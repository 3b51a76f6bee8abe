use Rattle.osm_model.proofs.DataLemmas.{below_of, is_true, next_of, not_true}
use Rattle.osm_model.proofs.data.check_next.Goals as goal

-- the key of a change that may follow is above the others
pub returns-then-not-is_above-clause-other : goal.returns-then-not-is_above-clause-other
returns-then-not-is_above-clause-other c = λ next. not_true c.is_above.result c.if-not-is_above.true
    (c.is_above.ensures.1 (below_of c.args.objects.now c.args.change.now next.rising))

pub returns-clause-next : goal.returns-clause-next
returns-clause-next c = next_of c.args.objects.now c.args.change.now c.requires c.limits.ensures
    (c.is_deletion.ensures.other (not_true c.is_deletion.result c.if-is_deletion.false))
    (c.is_above.ensures.0 (is_true c.is_above.result c.if-not-is_above.false))
