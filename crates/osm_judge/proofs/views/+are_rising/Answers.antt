use Rattle.std.proofs.Common.{map}
use Rattle.osm_model.specs.KeyOrder.{key_cmp}
use Rattle.osm_judge.proofs.ViewLemmas.{rising-nil, rising-cons, not_rising, no_items}
use Rattle.osm_judge.proofs.views.+are_rising.Goals as goal

pub returns-in-None : goal.returns-in-None
returns-in-None t c = rw (no_items c.args.objects.now c.in-None.ensures.cases) (rising-nil key_cmp)

pub returns-then-is_key_below : goal.returns-then-is_key_below
returns-then-is_key_below t c = rw c.in-Some.ensures.cases.0
    (rising-cons key_cmp c.in-Some.first.now.key (map (λ o. o.key) c.in-Some.others.now) c.is_key_below.result
    c.are_rising.result (rw (← c.key.ensures.key) c.is_key_below.ensures) c.if-is_key_below.true
    c.are_rising.ensures)

pub returns-else-is_key_below : goal.returns-else-is_key_below
returns-else-is_key_below t c = rw c.in-Some.ensures.cases.0
    (not_rising key_cmp c.in-Some.first.now.key (map (λ o. o.key) c.in-Some.others.now) c.is_key_below.result
    (rw (← c.key.ensures.key) c.is_key_below.ensures) c.if-is_key_below.false)
