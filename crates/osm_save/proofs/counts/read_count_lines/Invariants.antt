use Rattle.std.proofs.Common.{map}
use Rattle.std.specs.Ordering.{nat_cmp}
use Rattle.osm_save.specs.Reading.{count_at}
use Rattle.osm_save.proofs.ItemLemmas.{IsBelow, Items}
use Rattle.osm_save.proofs.counts.read_count_lines.Given as goal

abbrev pub invariant-loop : goal.invariant-loop
invariant-loop l = record {
  items : Items (λ e. e.0) (count_at l.fn.most) l.fn.many l.fn.rest l.counter l.counts l.last l.rest;
  below : IsBelow nat_cmp (map (λ e. e.0) l.counts) l.last;
}
