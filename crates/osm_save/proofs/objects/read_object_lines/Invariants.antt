use Rattle.std.proofs.Common.{map}
use Rattle.osm_model.specs.KeyOrder.{key_cmp}
use Rattle.osm_save.specs.Reading.{object_at}
use Rattle.osm_save.proofs.ItemLemmas.{IsBelow, Items}
use Rattle.osm_save.proofs.objects.read_object_lines.Given as goal

abbrev pub invariant-loop : goal.invariant-loop
invariant-loop l = record {
  items : Items (λ c. c.key) (object_at l.fn.filter) l.fn.many l.fn.rest l.counter l.objects l.last l.rest;
  below : IsBelow key_cmp (map (λ c. c.key) l.objects) l.last;
}
