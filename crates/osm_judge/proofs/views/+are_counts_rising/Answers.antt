use Rattle.std.proofs.Common.{map}
use Rattle.std.specs.Ordering.{nat_cmp}
use Rattle.osm_judge.proofs.ViewLemmas.{rising-nil, rising-cons, not_rising, no_items}
use Rattle.osm_judge.proofs.views.+are_counts_rising.Goals as goal

pub returns-in-None : goal.returns-in-None
returns-in-None t c = rw (no_items c.args.counts.now c.in-None.ensures.cases) (rising-nil nat_cmp)

pub returns-then-is_count_below : goal.returns-then-is_count_below
returns-then-is_count_below t c = rw c.in-Some.ensures.cases.0
    (rising-cons nat_cmp c.in-Some.first.now.0 (map (λ e. e.0) c.in-Some.others.now) c.is_count_below.result
    c.are_counts_rising.result c.is_count_below.ensures c.if-is_count_below.true c.are_counts_rising.ensures)

pub returns-else-is_count_below : goal.returns-else-is_count_below
returns-else-is_count_below t c = rw c.in-Some.ensures.cases.0
    (not_rising nat_cmp c.in-Some.first.now.0 (map (λ e. e.0) c.in-Some.others.now) c.is_count_below.result c.is_count_below.ensures c.if-is_count_below.false)
